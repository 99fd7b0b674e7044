use Rattle.std.proofs.Common.{map}
use Rattle.reply.proofs.RowLemmas.{now, row_read, values_more}
use Rattle.reply.proofs.rows.shown_line.Goals as goal

pub loop-column-preserved : goal.loop-column-preserved
loop-column-preserved c =
    values_more c.loop-column.values.items _ c.value_in.result (map now c.args.rows.now) c.args.columns.now c.loop-column.column-index _ c.index-rows-column.result.now c.loop-column-test.true
    c.in_ok-push.ensures.items (row_read c.args.rows.now c.args.columns.now c.loop-column.column-index _ c.index-rows-column.result c.requires.there c.loop-column-test.true c.index-rows-column.is) c.value_in.ensures c.loop-column.invariant
