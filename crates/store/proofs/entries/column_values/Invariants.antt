use Rattle.std.proofs.Common.{◌≡◌, map, take}
use Rattle.plan_tree.specs.Entries.{cell}
use Rattle.store.proofs.entries.column_values.Given as goal

abbrev pub invariant-loop-column : goal.invariant-loop-column
invariant-loop-column l = l.values.items ≡ map (cell l.row) (take l.column-index l.columns)
