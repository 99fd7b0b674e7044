use Rattle.std.proofs.Common.{◌≤◌, ◌+◌, map}
use Rattle.pg_base.specs.Sets.{has}
use Rattle.heap.specs.Tuples.{rank}
use Rattle.sort_rows.specs.work.KeySource.{world_of}
use Rattle.sort_rows.proofs.RowLemmas.{AreRowsBelow}
use Rattle.sort_rows.proofs.keys.tuple_rows.Given as goal

abbrev pub invariant-loop-r : goal.invariant-loop-r
invariant-loop-r g l = record {
  rows : AreRowsBelow (world_of l.at) l.at.q.now l.at.set l.tuple (map (λ r. r.now) l.rows.items) l.r;
  reads : l.reads ≤ l.fn.reads + rank (has l.at.set.0) l.r;
}
