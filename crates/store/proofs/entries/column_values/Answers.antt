use Rattle.std.proofs.Common.{◌∙◌, arith}
use Rattle.plan_tree.specs.Entries.{cell}
use Rattle.store.proofs.FoundLemmas.{cell-at, mapped-next}
use Rattle.store.proofs.entries.column_values.Goals as goal

pub loop-column-preserved : goal.loop-column-preserved
loop-column-preserved c =
    c.in_ok-push.ensures.items
    ∙ mapped-next (cell c.args.row.now) c.args.columns.now c.loop-column.column-index (record { 0 = 0 }) c.loop-column.values.items c.in_ok-copy.field-0 (omega arith) c.loop-column.invariant
    (c.in_ok-copy.ensures ∙ cell-at c.args.row.now _ c.value_in.result.now c.value_in.ensures)
