use Rattle.std.proofs.Common.{drop}
use Rattle.pg_base.specs.declared.numbers.IndexNo.{IndexNo}
use Rattle.pg_expr.specs.work.View.{cond}
use Rattle.plan_tree.specs.Bitmaps.{MatchesArm}
use Rattle.plan_tree.proofs.ElementLemmas.{AllWhere}
use Rattle.plan_tree.proofs.elements.are_matched.Given as goal

abbrev pub invariant-loop-arm : goal.invariant-loop-arm
invariant-loop-arm l = AllWhere cond (λ arm. (i : IndexNo) × MatchesArm l.fn.cat l.fn.q l.fn.r.0 arm i) l.arms (drop l.arm-index l.arms)
