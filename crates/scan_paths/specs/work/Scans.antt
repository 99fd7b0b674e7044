-- Scans of a relation by one index, and what an offer of scans does to a front. Own.
use Rattle.std.specs.Prelude.{Bool, true, false, List, All, map}
use Rattle.pg_base.specs.Sets.{has}
use Rattle.pg_base.specs.declared.numbers.IndexNo.{IndexNo}
use Rattle.pg_base.specs.declared.numbers.RelNo.{RelNo}
use Rattle.pg_base.specs.declared.rel_set.RelSet.{RelSet}
use Rattle.catalog.specs.Contents.{Contents}
use Rattle.eq_classes.specs.Clauses.{one}
use Rattle.sql_query.specs.Queries.{Query}
use Rattle.plan_tree.specs.Plans.{Plan, index, index_only, seq}
use Rattle.plan_tree.specs.work.Paths.{Path}
use Rattle.plan_tree.specs.work.Fronts.{AreOldOrOffers, ArePathsOf, IsServed, StayDominated, is_no_bitmap}
use Rattle.scan_paths.specs.declared.index_scans.ByIndex.{ByIndex}
use Rattle.scan_paths.specs.declared.reached.Reached.{Reached}
use Rattle.pathkeys.specs.Keys.{Keys}
use Rattle.plan_tree.specs.Keys.{scan_keys}
use Rattle.plan_tree.specs.work.Lists.{IsServedBy}
use Rattle.plan_tree.specs.work.Views.{path}
use Rattle.plan_tree.specs.Space.{IsEmpty}
use Rattle.scan_paths.specs.declared.relation_scans.Given.{Given}
use Rattle.plan_tree.specs.declared.path.Path.{Path as Costed}

-- a scan of a relation by an index, index-only or not
abbrev pub tree_by : Bool → RelNo → IndexNo → Bool → RelSet → Plan
tree_by false r i backward p = index r i backward p
tree_by true r i backward p = index_only r i backward p

-- the plan of a scan by an index, in a direction
abbrev pub tree_of : ByIndex → Bool → Plan
tree_of s backward = tree_by s.only s.rel s.index backward s.param

-- the keys of a scan by an index, in a direction
abbrev pub scan_keys_of : Contents → Query → ByIndex → Bool → Keys
scan_keys_of c q s backward = scan_keys c q s.rel s.index backward s.param

-- scans by an index are served either way, where they are of the space and admissible
abbrev pub AreWaysServed : Contents → Query → ByIndex → List Costed → Type 0
AreWaysServed c q s paths = (backward : Bool) → IsServedBy c q paths (tree_of s backward)

module _ (c : Contents) (q : Query) (r : RelNo) (p : RelSet) where
  -- scans of the relation with the parameterisation were offered: nothing else is new, and what was dominated still is
  pub record TakesScans (old new : List Path) : Type 0 where
    pub paths : ArePathsOf c q new
    pub kept : AreOldOrOffers c q is_no_bitmap (one r.0) (has p.0) old new
    pub still : StayDominated c q old new

  -- each scan by an index that is of the space and admissible is dominated, index-only or not, either way
  abbrev pub IsIndexServed : List Path → IndexNo → Type 0
  IsIndexServed paths i = (only backward : Bool) → IsServed c q paths (tree_by only r i backward p)

  -- each scan by one of some indexes that is of the space and admissible is dominated
  abbrev pub AreIndexesServed : List Path → List Reached → Type 0
  AreIndexesServed paths xs = All (λ (x : Reached). IsIndexServed paths x.index) xs

  -- scans were offered to a list of paths as it is held
  abbrev pub OffersScans : List Costed → List Costed → Type 0
  OffersScans old new = TakesScans (map path old) (map path new)

-- scans by an index are served in such a list, index-only or not
abbrev pub IsIndexServedBy : Contents → Query → ByIndex → List Costed → Type 0
IsIndexServedBy c q s paths = IsIndexServed c q s.rel s.param (map path paths) s.index

-- scans by each of some indexes of a relation are served in a list of paths, where the rows of others are given
abbrev pub AreAllServed : Contents → Query → Given → List Costed → List Reached → Type 0
AreAllServed c q at paths xs = AreIndexesServed c q at.rel at.param (map path paths) xs

-- the sequential scan is served in such a list, where no rows of others are given
abbrev pub IsSeqServed : Contents → Query → RelNo → RelSet → List Costed → Type 0
IsSeqServed c q r p paths = IsEmpty (has p.0) → IsServedBy c q paths (seq r)
