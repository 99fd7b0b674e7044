-- Which plans are admissible, which one stands for another, and which are undercut (PostgreSQL,
-- src/backend/optimizer/README; src/backend/optimizer/util/pathnode.c, add_path; the limit is own).
use Rattle.std.specs.Prelude.{◌≡◌, ◌<◌, ◌≤◌, ℕ, true, Option, Some, None}
use Rattle.sql_query.specs.catalog_Contents.{Contents}
use Rattle.cost_rules.specs.declared.parameters.TheConstants.{MOST_COST}
use Rattle.sql_query.specs.Queries.{Query}
use Rattle.sql_query.specs.declared.window.Window.{Window}
use Rattle.pathkeys.specs.Keys.{covers}
use Rattle.plan_tree.specs.Plans.{Plan}
use Rattle.plan_tree.specs.Keys.{keys_of}
use Rattle.plan_tree.specs.Costs.{cost, price}
use Rattle.plan_tree.specs.Space.{IsLike, IsFinished}

-- a plan is admissible where its total is below the limit
abbrev pub IsAdmissible : Contents → Query → Plan → Type 0
IsAdmissible c q p = (cost c q p).total < MOST_COST

-- the startup counts where the query has a window
abbrev pub IsStartupAtMost : Option Window → ℕ → ℕ → Type 0
IsStartupAtMost None a b = Unit {0}
IsStartupAtMost (Some w) a b = a ≤ b

-- one plan dominates another: the same set and parameterisation, no greater cost, keys that begin with the other's
pub record Dominates (c : Contents) (q : Query) (p other : Plan) : Type 0 where
  pub like : IsLike p other
  pub total : (cost c q p).total ≤ (cost c q other).total
  pub startup : IsStartupAtMost q.window (cost c q p).startup (cost c q other).startup
  pub keys : covers (keys_of c q p) (keys_of c q other) ≡ true

-- no admissible plan of all relations in the order asked for is of a lower price
abbrev pub IsLeast : Contents → Query → Plan → Type 0
IsLeast c q p = (other : Plan) → IsFinished c q other → IsAdmissible c q other → price c q p ≤ price c q other

-- no finished plan is admissible: each costs 10^18 or more
abbrev pub HasNoPlan : Contents → Query → Type 0
HasNoPlan c q = (p : Plan) → IsFinished c q p → ¬ IsAdmissible c q p

-- a plan that a statement may be answered by: finished, admissible, and of no greater price than any other such
pub record IsBestPlan (c : Contents) (q : Query) (p : Plan) : Type 0 where
  pub finished : IsFinished c q p
  pub admissible : IsAdmissible c q p
  pub least : IsLeast c q p
