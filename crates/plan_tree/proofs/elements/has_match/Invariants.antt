use Rattle.std.proofs.Common.{drop}
use Rattle.pg_expr.specs.work.View.{cond}
use Rattle.plan_tree.specs.Bitmaps.{MatchesArm}
use Rattle.plan_tree.proofs.ElementLemmas.{AreLeft}
use Rattle.plan_tree.proofs.elements.has_match.Given as goal

abbrev pub invariant-loop-i : goal.invariant-loop-i
invariant-loop-i l = AreLeft (MatchesArm l.fn.cat l.fn.q l.fn.r.0 (cond l.fn.arm)) (drop l.i-index l.i-items)
