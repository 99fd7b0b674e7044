use Rattle.std.proofs.Common.{◌≡◌, ◌+◌, ◌-◌, map}
use Rattle.catalog.specs.work.Entries.{index_of}
use Rattle.store.specs.work.Kept.{held_of}
use Rattle.store.proofs.FoundLemmas.{among}
use Rattle.store.proofs.entries.hashed_from.Given as goal

abbrev pub invariant-loop-n : goal.invariant-loop-n
invariant-loop-n g l = record {
  entries : l.rows.items ≡ map held_of (among (index_of l.def) l.heap.rows l.from (l.n - l.from));
  looks : l.looks ≡ l.fn.looks + (l.n - l.from);
}
