use Rattle.std.proofs.Common.{◌≡◌, ◌+◌, ◌-◌, ◌*◌, length, map, take}
use Rattle.std.specs.Prelude.{slice_index_or}
use Rattle.catalog.specs.Contents.{numbers_from}
use Rattle.sql_query.specs.Worlds.{nothing_stored}
use Rattle.store.specs.work.Kept.{built_over, first_rows}
use Rattle.store.specs.work.View.{built}
use Rattle.store.proofs.SwapLemmas.{swapped}
use Rattle.store.proofs.store.grow.Given as goal

abbrev pub invariant-loop-n : goal.invariant-loop-n
invariant-loop-n g l = record {
  long : length l.indexes.items ≡ length l.rows.cat.now.indexes;
  built : map built l.indexes.items ≡ swapped (built_over l.rows.heaps.now) (built_over (first_rows l.rows.before l.rows.table l.rows.heaps.now)) l.rows.cat.now.indexes l.n;
  looks : l.looks ≡ l.fn.looks + length (numbers_from 0 (take l.n l.rows.cat.now.indexes) l.rows.table) * (length (slice_index_or l.rows.heaps.now l.rows.table.0 nothing_stored).rows - l.rows.before);
}
