use Rattle.std.proofs.Common.{◌≡◌}
use Rattle.worked_data.proofs.heaps.below_200.Given as goal

abbrev pub invariant-loop-member : goal.invariant-loop-member
invariant-loop-member l = l.tids.bound ≡ 200
