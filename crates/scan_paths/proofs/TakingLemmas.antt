-- Offers one after the other.
use Rattle.std.proofs.Common.{◌⊎◌, Bool, true, false, List, inl, inr}
use Rattle.std.specs.Prelude.{Contains}
use Rattle.std.proofs.lemmas.List.Elements.{All-contains, All-weaker}
use Rattle.pg_base.specs.Sets.{has}
use Rattle.pg_base.specs.declared.numbers.IndexNo.{IndexNo}
use Rattle.pg_base.specs.declared.numbers.RelNo.{RelNo}
use Rattle.pg_base.specs.declared.rel_set.RelSet.{RelSet}
use Rattle.catalog.specs.Contents.{Contents}
use Rattle.eq_classes.specs.Clauses.{one}
use Rattle.sql_query.specs.Queries.{Query}
use Rattle.plan_tree.specs.Plans.{Plan}
use Rattle.plan_tree.specs.work.Paths.{Path}
use Rattle.plan_tree.specs.work.Fronts.{ArePathsOf, IsOffer, IsServed, StayDominated, is_no_bitmap}
use Rattle.plan_tree.proofs.FrontLemmas.{old-stay}
use Rattle.scan_paths.specs.work.Scans.{AreIndexesServed, IsIndexServed, TakesScans}
use Rattle.scan_paths.specs.declared.reached.Reached.{Reached}

pub either-way : (P : Bool → Type 0) → P false → P true → (b : Bool) → P b
either-way P no-way way false = no-way
either-way P no-way way true = way

module _ (c : Contents) (q : Query) where
  -- what is dominated stays so
  pub served-later : (b d : List Path) (t : Plan) → StayDominated c q b d → IsServed c q b t → IsServed c q d t
  served-later b d t still served built admissible = still t (served built admissible)

module _ (c : Contents) (q : Query) (r : RelNo) (p : RelSet) where
  -- nothing was offered
  pub takes-none : (ps : List Path) → ArePathsOf c q ps → TakesScans c q r p ps ps
  takes-none ps paths = record { paths = paths; kept = old-stay c q is_no_bitmap (one r.0) (has p.0) ps; still = λ t h. h }

  pub takes-then : (a b d : List Path) → TakesScans c q r p a b → TakesScans c q r p b d → TakesScans c q r p a d
  takes-then a b d first second = record {
    paths = second.paths;
    kept = All-weaker (λ k. Contains b k ⊎ IsOffer c q is_no_bitmap (one r.0) (has p.0) k) (λ k. Contains a k ⊎ IsOffer c q is_no_bitmap (one r.0) (has p.0) k) from d second.kept;
    still = λ t h. second.still t (first.still t h);
  }
    where
      from : (k : Path) → Contains b k ⊎ IsOffer c q is_no_bitmap (one r.0) (has p.0) k → Contains a k ⊎ IsOffer c q is_no_bitmap (one r.0) (has p.0) k
      from k (inl h) = All-contains (λ j. Contains a j ⊎ IsOffer c q is_no_bitmap (one r.0) (has p.0) j) b k first.kept h
      from k (inr h) = inr h

  pub index-served-later : (b d : List Path) (i : IndexNo) → StayDominated c q b d → IsIndexServed c q r p b i → IsIndexServed c q r p d i
  index-served-later b d i still served only backward built admissible = still _ (served only backward built admissible)

  pub entries-served-later : (b d : List Path) (xs : List Reached) → StayDominated c q b d → AreIndexesServed c q r p b xs → AreIndexesServed c q r p d xs
  entries-served-later b d xs still served = All-weaker (λ (x : Reached). IsIndexServed c q r p b x.index) (λ (x : Reached). IsIndexServed c q r p d x.index) (λ x h. index-served-later b d x.index still h) xs served
