use Rattle.std.proofs.Common.{◌≡◌, ◌≤◌, ◌+◌, map, drop, sum}
use Rattle.cost_rules.specs.declared.parameters.TheConstants.{MOST_COST}
use Rattle.cost_rules.specs.work.Costs.{capped}
use Rattle.pg_expr.specs.work.View.{cond}
use Rattle.plan_tree.specs.Costs.{parts_of_arms}
use Rattle.plan_tree.proofs.pricing.arms_part.Given as goal

abbrev pub invariant-loop-n : goal.invariant-loop-n
invariant-loop-n l = record {
  most : l.sum ≤ MOST_COST;
  total : capped (l.sum + sum (parts_of_arms l.fn.cat l.fn.q l.fn.r l.fn.p (map cond (drop l.n l.fn.arms)) (drop l.n l.fn.indexes))) ≡ capped (sum (parts_of_arms l.fn.cat l.fn.q l.fn.r l.fn.p (map cond l.fn.arms) l.fn.indexes));
}
