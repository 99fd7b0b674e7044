-- Paths of all relations of a query, and their plans brought into the order asked for (PostgreSQL,
-- src/backend/optimizer/plan/planner.c, create_ordered_paths; src/backend/optimizer/util/pathnode.c,
-- compare_fractional_path_costs; the limit is own).
use Rattle.std.specs.Prelude.{◌≡◌, ◌<◌, ◌≤◌, ℕ, cond, List, All, map, get_or}
use Rattle.catalog.specs.Contents.{Contents}
use Rattle.cost_rules.specs.declared.parameters.TheConstants.{MOST_COST}
use Rattle.pathkeys.specs.Keys.{covers, order_keys, Keys}
use Rattle.sql_query.specs.Queries.{Query, all_of_query}
use Rattle.plan_tree.specs.Costs.{price, cost}
use Rattle.plan_tree.specs.Keys.{keys_of}
use Rattle.plan_tree.specs.Least.{IsAdmissible, IsBestPlan}
use Rattle.plan_tree.specs.work.Paths.{Path, HasItsNumbers, IsFinishedPath, kept_cost}
use Rattle.plan_tree.specs.Plans.{Plan, empty, sort}
use Rattle.plan_tree.specs.Space.{IsPlanOf, IsFinished}
use Rattle.join_search.specs.plan_laws_Useful.{IsBelow}
use Rattle.join_search.specs.work.Sufficing.{HasSufficient}
use Rattle.join_search.specs.declared.useful.Asked.{Asked}
use Rattle.cost_rules.specs.work.Costs.{capped_pair}
use Rattle.cost_rules.specs.declared.pair.Pair.{Pair}
use Rattle.plan_tree.specs.work.Views.{path}
use Rattle.plan_tree.specs.declared.path.Path.{Path as Costed}
use Rattle.planner.specs.declared.finishing.Least.{Least}
use Rattle.planner.specs.declared.least_plan.Planned.{Planned}

module _ (c : Contents) (q : Query) where
  -- an admissible path of all relations without a parameterisation
  pub record IsWhole (p : Path) : Type 0 where
    pub plan : IsPlanOf c q (all_of_query q) empty p.tree
    pub admissible : IsAdmissible c q p.tree
    pub numbers : HasItsNumbers c q p

  -- paths over which a query is planned: they are of all relations, and for each plan of these below the limit that is asked
  -- for one of them suffices
  pub record AreCandidates (asked : Asked) (paths : List Path) : Type 0 where
    pub whole : All IsWhole paths
    pub enough : (t : Plan) → IsPlanOf c q (all_of_query q) empty t → IsBelow c q asked.limit t → HasSufficient c q asked paths t

  -- a plan in the order asked for: itself where its keys begin with the order keys, else its sort by them
  abbrev pub finished : Plan → Plan
  finished t = cond (covers (keys_of c q t) (order_keys q.classes q.order)) t (sort (order_keys q.classes q.order) t)

  -- the price of a plan in the order asked for, with its sort where it needs one
  abbrev pub finished_price : Plan → ℕ
  finished_price t = price c q (finished t)

  -- the plan of a path, in the order asked for, is admissible, and its price is this number, below the limit of costs
  pub record IsPriced (p : Path) (n : ℕ) : Type 0 where
    pub admissible : IsAdmissible c q (finished p.tree)
    pub price : n ≡ finished_price p.tree
    pub below : n < MOST_COST

  -- a plan that is admissible once it is in the order asked for, and of no greater price then than those of some paths
  -- that are admissible so
  pub record IsLeastOf (paths : List Path) (t : Plan) : Type 0 where
    pub admissible : IsAdmissible c q (finished t)
    pub least : All (λ p. IsAdmissible c q (finished p.tree) → finished_price t ≤ finished_price p.tree) paths

-- what each sort of a path's plan costs, as a path keeps it
abbrev pub IsSortedCost : Contents → Query → Costed → Pair → Type 0
IsSortedCost c q p own = (keys : Keys) → own ≡ capped_pair (kept_cost q.window (cost c q (sort keys (path p).tree)))

-- the plan of a path in the order asked for
abbrev pub finished_of : Contents → Query → Costed → Plan
finished_of c q p = finished c q (path p).tree

-- what it costs, as a path keeps it
abbrev pub finished_kept : Contents → Query → Costed → Pair
finished_kept c q p = capped_pair (kept_cost q.window (cost c q (finished_of c q p)))

-- of some paths none is admissible in the order asked for
abbrev pub NoneFinishes : Contents → Query → List Costed → Type 0
NoneFinishes c q paths = All (λ p. ¬ IsAdmissible c q (finished c q p.tree)) (map path paths)

-- a place of some paths has the price of the path there in the order asked for
abbrev pub HasItsPrice : Contents → Query → List Costed → Least → Type 0
HasItsPrice c q paths l = (d : Costed) → IsPriced c q (path (get_or paths l.at d)) l.price

-- the path there is one of least price of them
abbrev pub IsLeastPlace : Contents → Query → List Costed → Least → Type 0
IsLeastPlace c q paths l = (d : Costed) → IsLeastOf c q (map path paths) (path (get_or paths l.at d)).tree

-- what was planned is a finished path
abbrev pub HasFinished : Contents → Query → Planned → Type 0
HasFinished c q planned = IsFinishedPath c q (path planned.best)

-- the plan of what was planned is the best
abbrev pub HasBestPlan : Contents → Query → Planned → Type 0
HasBestPlan c q planned = IsBestPlan c q (path planned.best).tree

-- a query has no finished plan below the limit of costs
abbrev pub HasNoAdmissiblePlan : Contents → Query → Type 0
HasNoAdmissiblePlan c q = (t : Plan) → IsFinished c q t → ¬ IsAdmissible c q t

-- where the limit of a search is no less than that of costs, a query has no finished plan below the latter
abbrev pub HasNoneWithin : Contents → Query → ℕ → Type 0
HasNoneWithin c q limit = MOST_COST ≤ limit → HasNoAdmissiblePlan c q
