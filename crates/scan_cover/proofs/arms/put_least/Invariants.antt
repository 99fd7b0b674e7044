use Rattle.std.proofs.Common.{List, ◌++◌, map, take}
use Rattle.std.specs.List.{AllZip}
use Rattle.pg_base.specs.declared.numbers.IndexNo.{IndexNo}
use Rattle.pg_expr.specs.work.View.{cond}
use Rattle.bitmap_scan.specs.work.Arms.{IsLeastMatch}
use Rattle.scan_cover.specs.work.Arms.{IsFilled}
use Rattle.scan_cover.proofs.arms.put_least.Given as goal

abbrev pub invariant-loop-n : goal.invariant-loop-n
invariant-loop-n l = (is : List IndexNo) × AllZip (IsLeastMatch l.cat l.q l.r l.p) (map cond (take l.n l.arms)) is × ((found : List IndexNo) → IsFilled l.fn.into found → IsFilled l.into (found ++ is))
