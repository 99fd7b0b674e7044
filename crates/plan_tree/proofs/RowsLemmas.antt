-- What a plan is taken to give is from 1 to 10^12 rows.
use Rattle.std.proofs.Common.{ℕ, arith}
use Rattle.std.specs.Prelude.{Option, Some, None}
use Rattle.sql_query.specs.catalog_Contents.{Contents}
use Rattle.cost_rules.specs.work.Costs.{IsEstimate}
use Rattle.cost_rules.specs.Powers.{clamped}
use Rattle.eq_classes.specs.Clauses.{Set}
use Rattle.path_cost.specs.Estimates.{set_rows}
use Rattle.sql_query.specs.Queries.{Query}
use Rattle.plan_tree.specs.Plans.{Plan, GivenScan, given_scan, set_of}
use Rattle.plan_tree.specs.Costs.{estimate, rows_given}

clamped-estimate : (n : ℕ) → IsEstimate (clamped n)
clamped-estimate n = record { some = omega arith; most = omega arith }

module _ (c : Contents) (q : Query) where
  pub set-estimate : (set : Set) → IsEstimate (set_rows c q.range q.classes set)
  set-estimate set = clamped-estimate _

  given-estimate : (set : Set) (g : Option GivenScan) → IsEstimate (rows_given c q set g)
  given-estimate set None = set-estimate set
  given-estimate set (Some s) = clamped-estimate _

  pub plan-estimate : (p : Plan) → IsEstimate (estimate c q p)
  plan-estimate p = given-estimate (set_of p) (given_scan p)
