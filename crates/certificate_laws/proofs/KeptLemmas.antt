-- Kept paths with an entry for each make a table.
use Rattle.std.proofs.Common.{◌≡◌, ◌≢◌, ◌<◌, ◌≤◌, ℕ, zero, suc, List, [], ◌∷◌, ◌++◌, map, refl, sym, ap, subst, subst₂, ◌∙◌, inl, inr}
use Rattle.std.specs.Prelude.{Option, Some, None, Contains, option_map, option_and_then, slice_get}
use Rattle.std.proofs.lemmas.Bool.{cases_order}
use Rattle.std.proofs.lemmas.List.{append_assoc, append-nil}
use Rattle.std.proofs.lemmas.List.Elements.{All-contains}
use Rattle.std.proofs.lemmas.Option.{get_or_from_slice_get, slice_get-map, slice_get_within, slice_get-get_or, none-some, same_Some}
use Rattle.pg_base.specs.declared.rel_set.RelSet.{RelSet}
use Rattle.pg_base.specs.Sets.{has}
use Rattle.catalog.specs.Contents.{Contents}
use Rattle.sql_query.specs.Queries.{Query, width}
use Rattle.sql_query.specs.declared.window.Window.{Window}
use Rattle.plan_tree.specs.Plans.{Plan, seq, index, index_only, bitmap, sort, nest, merge}
use Rattle.plan_tree.specs.Costs.{cost, price}
use Rattle.plan_tree.specs.Paths.{startup_kept}
use Rattle.plan_tree.specs.work.Paths.{Path}
use Rattle.plan_tree.specs.Space.{IsFinished, IsPlanOf}
use Rattle.plan_tree.specs.Least.{IsAdmissible, Dominates}
use Rattle.plan_check.specs.plan_laws_Closed.{AreKeptSides, IsKeptSide, IsUndercut}
use Rattle.plan_check.specs.Certificates.{Certificate, Entry, finish_at, plan_at, unfold_at, unfolded}
use Rattle.plan_check.specs.Tables.{IsDominated, IsEntryAt, IsEntryPlan, IsStartup, IsPlanTable}
use Rattle.certificate_laws.specs.work.Kept.{AreEntriesOf, AreKept, AreOf, IsKeptPath, IsPlanOfSome}

abbrev tree_of : Path → Option Plan
tree_of x = Some x.tree

-- the entries stand for the plans of the paths
pub unfolded-are : (n : ℕ) (before : List (Option Plan)) (es : List Entry) (xs : List Path) → AreEntriesOf n before es xs → unfolded n before es ≡ before ++ map tree_of xs
unfolded-are n before [] [] h = sym (append-nil before)
unfolded-are n before [] (x ∷ xs) h = absurd h
unfolded-are n before (e ∷ es) [] h = absurd h
unfolded-are n before (e ∷ es) (x ∷ xs) (h, hs) =
    ap (λ (o : Option Plan). unfolded n (before ++ o ∷ []) es) h.plan ∙ (unfolded-are n (before ++ Some x.tree ∷ []) es xs hs ∙ append_assoc before (Some x.tree ∷ []) (map tree_of xs))

-- what an entry says of its path, but for what it is made of
pub record Says (e : Entry) (x : Path) : Type 0 where
  pub set : e.set ≡ x.set
  pub param : e.param ≡ x.param
  pub startup : e.startup ≡ x.startup
  pub cost : e.cost ≡ x.cost
  pub rows : e.rows ≡ x.rows
  pub keys : e.keys ≡ x.keys

-- the path of an entry
pub record HasPath (xs : List Path) (k : ℕ) (e : Entry) : Type 0 where
  pub path : Path
  pub stands : slice_get xs k ≡ Some path
  pub says : Says e path

path-of : (n : ℕ) (before : List (Option Plan)) (es : List Entry) (xs : List Path) → AreEntriesOf n before es xs → (k : ℕ) (e : Entry) → slice_get es k ≡ Some e → HasPath xs k e
path-of n before [] [] h k e is = absurd (none-some e is)
path-of n before [] (x ∷ xs) h k e is = absurd h
path-of n before (o ∷ es) [] h k e is = absurd h
path-of n before (o ∷ es) (x ∷ xs) (h, hs) zero e is = subst (HasPath (x ∷ xs) 0) (same_Some o e is)
    (record { path = x; stands = refl; says = record { set = h.set; param = h.param; startup = h.startup; cost = h.cost; rows = h.rows; keys = h.keys } })
path-of n before (o ∷ es) (x ∷ xs) (h, hs) (suc k) e is =
    let r = path-of n (before ++ Some x.tree ∷ []) es xs hs k e is in record { path = r.path; stands = r.stands; says = r.says }

contains-at : (xs : List Path) (k : ℕ) (x : Path) → slice_get xs k ≡ Some x → Contains xs x
contains-at xs k x h = (k, slice_get_within xs k x h, get_or_from_slice_get xs k x x h)

at-contained : (xs : List Path) (x : Path) → Contains xs x → (k : ℕ) × (slice_get xs k ≡ Some x)
at-contained xs x (k, lt, is) = (k, slice_get-get_or xs k x lt ∙ ap Some is)

startup-is : (w : Option Window) (e x n : ℕ) → e ≡ x → x ≡ startup_kept w n → IsStartup w e n
startup-is None e x n h k = tt
startup-is (Some w) e x n h k = h ∙ k

-- sides are kept in every sense that is wider
side-wider : (c : Contents) (q : Query) (K L : Plan → Type 0) → ((p : Plan) → K p → L p) → (p : Plan) → IsKeptSide c q K p → IsKeptSide c q L p
side-wider c q K L f (seq r) h = f (seq r) h
side-wider c q K L f (index r i backward p) h = f (index r i backward p) h
side-wider c q K L f (index_only r i backward p) h = f (index_only r i backward p) h
side-wider c q K L f (bitmap r p bits) h = f (bitmap r p bits) h
side-wider c q K L f (sort keys input) h = f input h
side-wider c q K L f (nest outer inner) h = f (nest outer inner) h
side-wider c q K L f (merge keys outer inner) h = f (merge keys outer inner) h

pub sides-wider : (c : Contents) (q : Query) (K L : Plan → Type 0) → ((p : Plan) → K p → L p) → (p : Plan) → AreKeptSides c q K p → AreKeptSides c q L p
sides-wider c q K L f (seq r) h = h
sides-wider c q K L f (index r i backward p) h = h
sides-wider c q K L f (index_only r i backward p) h = h
sides-wider c q K L f (bitmap r p bits) h = h
sides-wider c q K L f (sort keys input) h = h
sides-wider c q K L f (nest outer inner) h = (f outer h.0, f inner h.1)
sides-wider c q K L f (merge keys outer inner) h = (side-wider c q K L f outer h.0, side-wider c q K L f inner h.1)

module _ (c : Contents) (q : Query) (t : Certificate) (xs : List Path) (kept : AreKept c q xs) (of : AreOf q t xs) where
  number-of : (k : ℕ) (x : Path) → slice_get xs k ≡ Some x → unfold_at q t (suc k) ≡ Some x.tree
  number-of k x h =
      ap (λ (ps : List (Option Plan)). plan_at ps (suc k)) (unfolded-are (width q) [] t.entries xs of) ∙
      (ap (option_and_then (λ (p : Option Plan). p)) (slice_get-map tree_of xs k) ∙ ap (λ (o : Option Path). option_and_then (λ (p : Option Plan). p) (option_map tree_of o)) h)

  -- the path of a number that has a plan
  record HasPathOf (m : ℕ) (p : Plan) : Type 0 where
    pub place : ℕ
    pub number : m ≡ suc place
    pub path : Path
    pub stands : slice_get xs place ≡ Some path
    pub is_plan : path.tree ≡ p

  by-place : (k : ℕ) (p : Plan) (o : Option Path) → slice_get xs k ≡ o → option_and_then (λ (p : Option Plan). p) (option_map tree_of o) ≡ Some p → HasPathOf (suc k) p
  by-place k p None e h = absurd (none-some p h)
  by-place k p (Some x) e h = record { place = k; number = refl; path = x; stands = e; is_plan = same_Some x.tree p h }

  path-at : (m : ℕ) (p : Plan) → unfold_at q t m ≡ Some p → HasPathOf m p
  path-at zero p h = absurd (none-some p h)
  path-at (suc k) p h = by-place k p (slice_get xs k) refl
      (ap (option_and_then (λ (p : Option Plan). p)) (sym (slice_get-map tree_of xs k)) ∙
      (ap (λ (ps : List (Option Plan)). plan_at ps (suc k)) (sym (unfolded-are (width q) [] t.entries xs of)) ∙ h))

  entry-plan : (p : Plan) → IsPlanOfSome xs p → IsEntryPlan q t p
  entry-plan p s =
      let at = at-contained xs s.path s.is_there in
      record { number = suc at.0; unfolds = number-of at.0 s.path at.1 ∙ ap Some s.is_plan }

  plan-of-some : (p : Plan) → IsEntryPlan q t p → IsPlanOfSome xs p
  plan-of-some p k =
      let at = path-at k.number p k.unfolds in
      record { path = at.path; is_there = contains-at xs at.place at.path at.stands; is_plan = at.is_plan }

  undercut-by-entry : (p : Plan) → IsUndercut c q (IsPlanOfSome xs) p → IsDominated c q t p
  undercut-by-entry p u = record { by' = u.by'; is_kept = entry-plan u.by' u.is_kept; dominates = u.dominates }

  entry-is : (k : ℕ) (e : Entry) → slice_get t.entries k ≡ Some e → IsEntryAt c q t k e
  entry-is k e stands =
      let h = path-of (width q) [] t.entries xs of k e stands in
      let x = h.path in
      let s = h.says in
      let is = All-contains (IsKeptPath c q) xs x kept.paths_are (contains-at xs k x h.stands) in
      let numbers = is.is_path.numbers in
      record {
        plan = x.tree;
        unfolds = number-of k x h.stands;
        has = record {
          plan = subst (λ (s : RelSet). IsPlanOf c q (has s.0) (has e.param.0) x.tree) (sym s.set) (subst (λ (p : RelSet). IsPlanOf c q (has x.set.0) (has p.0) x.tree) (sym s.param) is.is_path.plan);
          admissible = is.admissible;
          keys = s.keys ∙ numbers.keys;
        };
        numbers = record {
          startup = startup-is q.window e.startup x.startup (cost c q x.tree).startup s.startup numbers.startup;
          total = s.cost ∙ numbers.cost;
          rows = s.rows ∙ numbers.rows;
        };
      }

  apart-at : (k l : ℕ) (x y : Path) → slice_get xs k ≡ Some x → slice_get xs l ≡ Some y → k < l → ¬ Dominates c q x.tree y.tree × ¬ Dominates c q y.tree x.tree
  apart-at k l x y e f lt =
      subst₂ (λ (a b : Path). ¬ Dominates c q a.tree b.tree × ¬ Dominates c q b.tree a.tree) (get_or_from_slice_get xs k x x e) (get_or_from_slice_get xs l y x f)
      (kept.apart k l x lt (slice_get_within xs l y f))

  apart-plans : (m n : ℕ) (p o : Plan) → unfold_at q t m ≡ Some p → unfold_at q t n ≡ Some o → m ≢ n → ¬ Dominates c q p o
  apart-plans m n p o e f differ over =
      let a = path-at m p e in
      let b = path-at n o f in
      let over' = subst₂ (Dominates c q) (sym a.is_plan) (sym b.is_plan) over in
      elim (cases_order a.place b.place) [
        | inl same ↦ absurd (differ (a.number ∙ (ap suc same ∙ sym b.number)))
        | inr r ↦ elim r [
          | inl lt ↦ absurd ((apart-at a.place b.place a.path b.path a.stands b.stands lt).0 over')
          | inr gt ↦ absurd ((apart-at b.place a.place b.path a.path b.stands a.stands gt).1 over')
        ]
      ]

  pub made-table : (best : Plan) → finish_at q t t.best ≡ Some best → IsFinished c q best → IsAdmissible c q best →
      ((p : Plan) → IsFinished c q p → IsAdmissible c q p → price c q best ≤ price c q p) → IsPlanTable c q t
  made-table best is finished admissible least = record {
    entries = entry-is;
    scans = λ p e built a. undercut-by-entry p (kept.scans p e built a);
    joins = λ p sides built a. undercut-by-entry p (kept.joins p (sides-wider c q (IsEntryPlan q t) (IsPlanOfSome xs) plan-of-some p sides) built a);
    apart = apart-plans;
    best = record {
      plan = best;
      is = is;
      finished = finished;
      least = record {
        admissible = λ o over a. (admissible, least o over.finished a);
        dearer = λ none o over. absurd (none best (record { side = t.best; is = is; finished = finished }) admissible);
      };
    };
  }
