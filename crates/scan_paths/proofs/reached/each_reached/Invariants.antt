use Rattle.std.proofs.Common.{take}
use Rattle.scan_paths.specs.work.Reached.{AreReachedBy}
use Rattle.scan_paths.proofs.reached.each_reached.Given as goal

-- the indexes so far
abbrev pub invariant-loop-i : goal.invariant-loop-i
invariant-loop-i l = AreReachedBy l.cat l.q l.r (take l.i-index l.indexes) l.found.items
