use Rattle.std.proofs.Common.{◌≡◌, take}
use Rattle.sort_rows.specs.work.Keyed.{rows_keyed}
use Rattle.sort_rows.proofs.sort.rows_of.Given as goal

abbrev pub invariant-loop-item : goal.invariant-loop-item
invariant-loop-item l = l.rows ≡ record { set = l.fn.input.set; rows = rows_keyed l.fn.input.rows (take l.item-index l.items) }
