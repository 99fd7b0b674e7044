-- Which joins of the entries of a certificate are dominated by an entry. Own.
use Rattle.std.specs.Prelude.{◌≡◌, ◌≢◌, ◌<◌, ◌≤◌, ℕ, Bool, true, false, suc, List, [], ◌∷◌, Option, Some, slice_get}
use Rattle.pg_base.specs.Sets.{has}
use Rattle.catalog.specs.Contents.{Contents}
use Rattle.eq_classes.specs.declared.classes.ClassNo.{ClassNo}
use Rattle.sql_query.specs.Queries.{Query}
use Rattle.plan_laws.specs.Closed.{AreKeptSides, IsKeptSide}
use Rattle.plan_tree.specs.Least.{IsAdmissible}
use Rattle.plan_tree.specs.Plans.{Plan, merge, nest}
use Rattle.plan_tree.specs.Space.{IsBuilt, IsMergeList}
use Rattle.plan_check.specs.Certificates.{Certificate, sorted_if, unfold_at}
use Rattle.plan_check.specs.Tables.{IsDominated, IsEntryPlan}
use Rattle.pathkeys.specs.Keys.{Keys}
use Rattle.plan_check.specs.work.Placing.{IsOf, place_at}
use Rattle.plan_check.specs.Plains.{StandsForPlan, keys_in}
use Rattle.plan_check.specs.Verdicts.{IsUncovered}
use Rattle.plan_check.specs.declared.places.SetPlaces.{SetPlaces}
use Rattle.plan_check.specs.declared.verdict.Plain.{Plain}
use Rattle.plan_check.specs.declared.verdict.Plain.TheVariants as plain
use Rattle.join_cover.specs.declared.uncovered.Uncovered.{Uncovered}

module _ (c : Contents) (q : Query) (t : Certificate) where
  -- an entry dominates a plan, where the plan is an admissible one of the space
  abbrev pub IsServed : Plan → Type 0
  IsServed p = IsBuilt c q p → IsAdmissible c q p → IsDominated c q t p

  -- an entry dominates the nested loop of the entries at two places, from 0, where it is an admissible plan of the space
  abbrev pub IsNestServed : ℕ → ℕ → Type 0
  IsNestServed k l = (o i : Plan) → unfold_at q t (suc k) ≡ Some o → unfold_at q t (suc l) ≡ Some i → IsServed (nest o i)

  -- an entry dominates each nested loop of entries that is an admissible plan of the space
  abbrev pub AreNestsServed : Type 0
  AreNestsServed = (o i : Plan) → IsEntryPlan q t o → IsEntryPlan q t i → IsServed (nest o i)

  -- a candidate that no entry dominates
  abbrev pub IsOpen : Plain → Uncovered → Type 0
  IsOpen node x = IsUncovered c q t node x.startup x.cost x.rows

  -- the merge of the entries at two places by a list, each sorted by it or not
  abbrev pub IsMergeServed : Keys → Bool → Bool → ℕ → ℕ → Type 0
  IsMergeServed keys sa sb k l = (o i : Plan) → unfold_at q t (suc k) ≡ Some o → unfold_at q t (suc l) ≡ Some i → IsServed (merge keys (sorted_if sa keys o) (sorted_if sb keys i))

  -- no entry dominates it: whatever stands for it is a candidate that none dominates
  abbrev pub IsMergeOpen : Keys → Bool → Bool → ℕ → ℕ → Uncovered → Type 0
  IsMergeOpen keys sa sb k l x =
      (node : Plain) → ((o i : Plan) → unfold_at q t (suc k) ≡ Some o → unfold_at q t (suc l) ≡ Some i → StandsForPlan c q t node (merge keys (sorted_if sa keys o) (sorted_if sb keys i))) → IsOpen node x

  -- the merge of the entries at two places by a list, whichever of the two is sorted
  abbrev pub IsListServed : Keys → ℕ → ℕ → Type 0
  IsListServed keys k l = (sa sb : Bool) → IsMergeServed keys sa sb k l

  -- the nested loops of the entries of two sets; so at some places of each
  abbrev pub AreNestsOf : ℕ → ℕ → Type 0
  AreNestsOf x y = (k l : ℕ) → IsOf t.entries x k → IsOf t.entries y l → IsNestServed k l

  -- the nested loops of the entries of two sets, so far as these stand at a stretch of ranks on either side: from one on
  -- and before another
  abbrev pub AreNestsBy : SetPlaces → ℕ → ℕ → ℕ × ℕ → ℕ × ℕ → Type 0
  AreNestsBy p x y outer inner =
      (k l : ℕ) → outer.0 ≤ k → k < outer.1 → inner.0 ≤ l → l < inner.1 → IsOf t.entries x (place_at p k) → IsOf t.entries y (place_at p l) → IsNestServed (place_at p k) (place_at p l)

  -- the merges of the entries of two sets by a list, each as it stands or sorted
  abbrev pub AreMergesBy : Keys → ℕ → ℕ → Type 0
  AreMergesBy keys x y = (k l : ℕ) → IsOf t.entries x k → IsOf t.entries y l → IsListServed keys k l

  -- the merges of the entries of two sets by any list of classes
  abbrev pub AreMergesOf : ℕ → ℕ → Type 0
  AreMergesOf x y = (keys : Keys) → AreMergesBy keys x y

  -- the merges of one outer entry, sorted or not, with the inner ones as they stand, and with the one at a place sorted
  pub record IsRowServed (keys : Keys) (x y k : ℕ) (sa : Bool) (least : ℕ) : Type 0 where
    pub sorted : IsOf t.entries x k → IsOf t.entries y least → IsMergeServed keys sa true k least
    pub plain : (l : ℕ) → IsOf t.entries x k → IsOf t.entries y l → IsMergeServed keys sa false k l

  -- all joins of the entries of two sets
  pub record AreJoinsOf (x y : ℕ) : Type 0 where
    pub nests : AreNestsOf x y
    pub merges : AreMergesOf x y

  -- an entry dominates each merge of entries, as they stand or sorted, that is an admissible plan of the space
  abbrev pub AreMergesServed : Type 0
  AreMergesServed = (keys : Keys) (o i : Plan) → IsKeptSide c q (IsEntryPlan q t) o → IsKeptSide c q (IsEntryPlan q t) i → IsServed (merge keys o i)

  -- an entry dominates each join of entries that is an admissible plan of the space
  abbrev pub AreJoinsServed : Type 0
  AreJoinsServed = (p : Plan) → AreKeptSides c q (IsEntryPlan q t) p → IsServed p

  -- the merges of the entries of two sets by a list of three classes, where the last is another than the first two
  abbrev pub IsThirdServed : ClassNo → ClassNo → ℕ → ℕ → ClassNo → Type 0
  IsThirdServed x y a b z = z.0 ≢ x.0 → z.0 ≢ y.0 → AreMergesBy (x.0 ∷ y.0 ∷ z.0 ∷ []) a b

  module _ (found : List (Option ClassNo)) where
    -- the merges of the entries of two sets by the lists of three that begin with two classes
    abbrev pub AreThirdsServed : ClassNo → ClassNo → ℕ → ℕ → Type 0
    AreThirdsServed x y a b = (n : ℕ) (z : ClassNo) → slice_get found n ≡ Some (Some z) → IsThirdServed x y a b z

    -- the merges of the entries of two sets by the lists that begin with two classes
    abbrev pub IsSecondServed : ClassNo → ClassNo → ℕ → ℕ → Type 0
    IsSecondServed x y a b = y.0 ≢ x.0 → AreMergesBy (x.0 ∷ y.0 ∷ []) a b × AreThirdsServed x y a b

    -- the merges of the entries of two sets by the lists that begin with one class
    abbrev pub IsFirstServed : ClassNo → ℕ → ℕ → Type 0
    IsFirstServed x a b = AreMergesBy (x.0 ∷ []) a b × ((n : ℕ) (y : ClassNo) → slice_get found n ≡ Some (Some y) → IsSecondServed x y a b)

module _ (t : Certificate) where
  -- an entry of a set has a number, from 1
  pub record IsNumberOf (s n : ℕ) : Type 0 where
    pub place : ℕ
    pub is : n ≡ suc place
    pub of : IsOf t.entries s place

  -- the outer entry is of one set and the inner one of another, by their numbers
  abbrev pub AreSides : ℕ → ℕ → ℕ → ℕ → Type 0
  AreSides x y k l = IsNumberOf x k × IsNumberOf y l

  -- a merge by a list of an entry of one set and one of another, each as it stands or sorted
  abbrev pub IsMergeBy : Keys → ℕ → ℕ → Plain → Type 0
  IsMergeBy keys x y (plain.Merge list outer inner) = (keys_in list ≡ keys) × AreSides x y outer.entry inner.entry
  IsMergeBy keys x y (plain.Seq r) = ⊥
  IsMergeBy keys x y (plain.Index r i backward only param) = ⊥
  IsMergeBy keys x y (plain.Bitmap r param elements arms) = ⊥
  IsMergeBy keys x y (plain.Nest outer inner) = ⊥

  -- a merge by any list of an entry of one set and one of another, each as it stands or sorted
  abbrev pub IsMergeOfSets : ℕ → ℕ → Plain → Type 0
  IsMergeOfSets x y node = (keys : Keys) × IsMergeBy keys x y node

  -- a nested loop or a merge of an entry of one set and one of another
  abbrev pub IsJoinOfSets : ℕ → ℕ → Plain → Type 0
  IsJoinOfSets x y (plain.Nest outer inner) = AreSides x y outer inner
  IsJoinOfSets x y (plain.Merge list outer inner) = AreSides x y outer.entry inner.entry
  IsJoinOfSets x y (plain.Seq r) = ⊥
  IsJoinOfSets x y (plain.Index r i backward only param) = ⊥
  IsJoinOfSets x y (plain.Bitmap r param elements arms) = ⊥

-- each class that was found is by itself a list of a merge of two sets
abbrev pub AreListsOf : Contents → Query → List (Option ClassNo) → ℕ → ℕ → Type 0
AreListsOf c q found a b = (n : ℕ) (x : ClassNo) → slice_get found n ≡ Some (Some x) → IsMergeList c q (has a) (has b) (x.0 ∷ [])
