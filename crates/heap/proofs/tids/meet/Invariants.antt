use Rattle.std.proofs.Common.{bit_and}
use Rattle.heap.proofs.MarkLemmas.{AreChanged}
use Rattle.heap.proofs.tids.meet.Given as goal

abbrev pub invariant-loop-place : goal.invariant-loop-place
invariant-loop-place l = AreChanged bit_and l.fn.words l.others l.words l.place
