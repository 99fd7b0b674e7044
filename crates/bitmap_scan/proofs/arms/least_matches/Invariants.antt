use Rattle.std.proofs.Common.{map, take}
use Rattle.pg_expr.specs.work.View.{cond}
use Rattle.bitmap_scan.specs.work.Arms.{AreServed}
use Rattle.bitmap_scan.proofs.arms.least_matches.Given as goal

abbrev pub invariant-loop-arm : goal.invariant-loop-arm
invariant-loop-arm l = AreServed l.cat l.q l.r l.p (map cond (take l.arm-index l.arms)) l.indexes.items l.sum
