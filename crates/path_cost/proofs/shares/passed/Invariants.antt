use Rattle.std.proofs.Common.{◌-◌, ◌≤◌, length}
use Rattle.path_cost.specs.Selectivity.{bounds_passed}
use Rattle.path_cost.proofs.shares.passed.Given as goal

-- the bounds that are passed are counted between two places of the histogram
abbrev pub invariant-loop-from : goal.invariant-loop-from
invariant-loop-from l =
    let count = bounds_passed l.fn.op l.k.histogram.now l.v in
    (l.from ≤ count) × (count ≤ l.to) × (l.to ≤ length l.k.histogram.now)

abbrev pub decreases-loop-from : goal.decreases-loop-from
decreases-loop-from l = l.to - l.from
