use Rattle.std.proofs.Common.{bit_or}
use Rattle.heap.proofs.MarkLemmas.{AreChanged}
use Rattle.heap.proofs.tids.join.Given as goal

abbrev pub invariant-loop-place : goal.invariant-loop-place
invariant-loop-place l = AreChanged bit_or l.fn.words l.others l.words l.place
