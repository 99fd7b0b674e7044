use Rattle.std.proofs.Common.{◌≡◌}
use Rattle.worked_data.proofs.heaps.pairs.Given as goal

abbrev pub invariant-loop-first : goal.invariant-loop-first
invariant-loop-first l = l.tuples.set ≡ l.fn.set
