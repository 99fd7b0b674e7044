use Rattle.std.proofs.Common.{◌≡◌, ◌≤◌}
use Rattle.pg_base.specs.Sets.{has}
use Rattle.heap.specs.Tuples.{rank}
use Rattle.planned_table.proofs.printing.size.Given as goal

abbrev pub invariant-loop-k : goal.invariant-loop-k
invariant-loop-k l = record {
  counted : l.members ≡ rank (has l.set.0) l.k;
  few : l.members ≤ l.k;
}
