use Rattle.std.proofs.Common.{List, map, take}
use Rattle.pg_base.specs.declared.numbers.IndexNo.{IndexNo}
use Rattle.pg_expr.specs.work.View.{cond}
use Rattle.bitmap_scan.specs.work.Arms.{AreServed}
use Rattle.scan_cover.proofs.arms.arms_part.Given as goal

abbrev pub invariant-loop-n : goal.invariant-loop-n
invariant-loop-n l = (is : List IndexNo) × AreServed l.cat l.q l.r l.p (map cond (take l.n l.arms)) is l.sum
