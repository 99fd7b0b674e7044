use Rattle.std.proofs.Common.{drop}
use Rattle.pg_expr.specs.work.View.{cond}
use Rattle.cost_rules.specs.work.Costs.{capped}
use Rattle.plan_tree.specs.Bitmaps.{MatchesArm}
use Rattle.bitmap_scan.specs.work.Arms.{part_for}
use Rattle.bitmap_scan.proofs.ArmLemmas.{BestSoFar}
use Rattle.bitmap_scan.proofs.arms.least_match.Given as goal

abbrev pub invariant-loop-i : goal.invariant-loop-i
invariant-loop-i l = BestSoFar (MatchesArm l.cat l.q l.r.0 (cond l.arm)) (λ i. capped (part_for l.cat l.q l.r l.p (cond l.arm) i)) (drop l.i-index l.i-items) l.best
