use Rattle.std.proofs.Common.{◌≡◌, ◌+◌, map}
use Rattle.std.specs.List.{range_with_len}
use Rattle.executor.specs.work.Numbers.{numbers}
use Rattle.sort_rows.specs.work.Rows.{relation}
use Rattle.sql_query.specs.Tuples.{row_at}
use Rattle.reply.specs.work.Settings.{world_of}
use Rattle.reply.proofs.rows.rows_at.Given as goal

abbrev pub invariant-loop-n : goal.invariant-loop-n
invariant-loop-n g l = record {
  rows : map (λ r. r.now) l.rows.items ≡ map (λ k. row_at (world_of l.at) l.at.q.now (numbers l.tuple) (relation k)) (range_with_len 0 l.n);
  reads : l.reads ≡ l.fn.reads + l.n;
}
