use Rattle.std.proofs.Common.{◌≡◌, false, take}
use Rattle.path_cost.specs.Ranges.{has_bound}
use Rattle.path_cost.specs.work.Ranges.{conditions_of}
use Rattle.path_cost.proofs.ranges.has_bound.Given as goal

abbrev pub invariant-loop-n : goal.invariant-loop-n
invariant-loop-n l = has_bound l.x l.below (take l.n (conditions_of l.list)) ≡ false
