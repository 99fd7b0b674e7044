use Rattle.std.proofs.Common.{◌<◌, ◌≤◌, All, take}
use Rattle.opfamily.specs.KeyOrder.{IndexEntry}
use Rattle.btree_index.proofs.sorted.above_rows.Given as goal

abbrev pub invariant-loop-n : goal.invariant-loop-n
invariant-loop-n l = (l.fn.least ≤ l.above) × All (λ (e : IndexEntry). e.row < l.above) (take l.n l.entries)
