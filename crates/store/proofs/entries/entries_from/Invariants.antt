use Rattle.std.proofs.Common.{◌≡◌, ◌+◌, ◌-◌}
use Rattle.catalog.specs.work.Entries.{index_of}
use Rattle.store.proofs.FoundLemmas.{among}
use Rattle.store.proofs.entries.entries_from.Given as goal

abbrev pub invariant-loop-n : goal.invariant-loop-n
invariant-loop-n g l = record {
  entries : l.entries.items ≡ among (index_of l.def) l.heap.rows l.from (l.n - l.from);
  looks : l.looks ≡ l.fn.looks + (l.n - l.from);
}
