-- What all heaps store once a `&mut` to one of them has ended. Own.
use Rattle.std.specs.Prelude.{ℕ, List, slice_set}
use Rattle.std.specs.Borrow.{Fml, Lends, MutBor, RattleType}
use Rattle.std.specs.declared.sync.ledger.Ledger as ledger
use Rattle.heap.specs.contracts.heaps.Heaps.{the_row as heaps_row}
use Rattle.heap.specs.contracts.store.Heap.{the_row as heap_row}
use Rattle.heap.specs.Stored.{Stored}

-- the heap of table t stores what is stored behind r at last
abbrev pub LendsHeap : (C F L : RattleType) → ledger.Ghosts F.Denot → ledger.Ghosts L.Denot → MutBor (List Stored) → ℕ → MutBor Stored → Fml
LendsHeap C F L f l s t r = Lends (heaps_row C F L f l) (heap_row C F L f l) s r (λ w. slice_set s.now t w)
