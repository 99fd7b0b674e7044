-- What lists of paths, as they are held, take and serve.
use Rattle.std.specs.Prelude.{Bool, List, map}
use Rattle.pg_base.specs.Sets.{has}
use Rattle.pg_base.specs.declared.numbers.RelNo.{RelNo}
use Rattle.pg_base.specs.declared.rel_set.RelSet.{RelSet}
use Rattle.eq_classes.specs.Clauses.{one}
use Rattle.sql_query.specs.catalog_Contents.{Contents}
use Rattle.sql_query.specs.Queries.{Query}
use Rattle.plan_tree.specs.declared.path.Path.{Path as Costed}
use Rattle.plan_tree.specs.work.Fronts.{AreDominated, AreOldOrOffers, HasDominating, IsServed}
use Rattle.plan_tree.specs.Least.{IsAdmissible}
use Rattle.plan_tree.specs.Plans.{Plan}
use Rattle.plan_tree.specs.work.Views.{path}

-- each path stood in the list before or is an offer of a scan of the relation that passes a test
abbrev pub AreScanOffers : Contents → Query → (Plan → Bool) → RelNo → RelSet → List Costed → List Costed → Type 0
AreScanOffers c q test r p old new = AreOldOrOffers c q test (one r.0) (has p.0) (map path old) (map path new)

-- each admissible scan of the relation that passes a test is dominated by a path of the list
abbrev pub AreDominatedBy : Contents → Query → (Plan → Bool) → RelNo → RelSet → List Costed → Type 0
AreDominatedBy c q test r p paths = AreDominated c q test (one r.0) (has p.0) (map path paths)

-- a plan is dominated by a path of the list where it is of the space and admissible
abbrev pub IsServedBy : Contents → Query → List Costed → Plan → Type 0
IsServedBy c q paths t = IsServed c q (map path paths) t

-- a plan is dominated by a path of the list where it is admissible
abbrev pub IsDominatedIn : Contents → Query → List Costed → Plan → Type 0
IsDominatedIn c q paths t = IsAdmissible c q t → HasDominating c q (map path paths) t
