-- Working words beside those of `Costs`.
use Rattle.std.specs.Prelude.{ℕ, ◌≤◌, List, map}
use Rattle.pg_base.specs.declared.numbers.IndexNo.{IndexNo}
use Rattle.pg_base.specs.declared.numbers.RelNo.{RelNo}
use Rattle.pg_base.specs.declared.rel_set.RelSet.{RelSet}
use Rattle.pg_expr.specs.work.View as view
use Rattle.sql_query.specs.catalog_Contents.{Contents}
use Rattle.sql_query.specs.Queries.{Query}
use Rattle.path_cost.specs.Estimates.{table_rows}
use Rattle.plan_tree.specs.Plans.{BitTrees}
use Rattle.pg_expr.specs.declared.expr.Expr.{Expr}
use Rattle.plan_tree.specs.Costs.{together, parts_of_arms, parts_of_all}

module _ (c : Contents) (q : Query) where
  -- the parts of the indexes of some arms together
  abbrev pub arms_together : RelNo → RelSet → List Expr → List IndexNo → ℕ
  arms_together r p arms is = together (parts_of_arms c q r p (map view.cond arms) is)

  -- the parts of the indexes of some bitmap trees together
  abbrev pub trees_together : RelNo → RelSet → BitTrees → ℕ
  trees_together r p bs = together (parts_of_all c q r p bs)

  -- the table of each relation is taken to have a row
  abbrev pub HaveRows : Type 0
  HaveRows = (r : ℕ) → 1 ≤ table_rows c q.range r
