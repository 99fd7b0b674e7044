use Rattle.std.proofs.Common.{arith}
use Rattle.catalog.specs.Contents.{table_at}
use Rattle.query_reader.proofs.RelationsLemmas.{column-more, column-end, column-added, columns-done}
use Rattle.query_reader.proofs.relations.add_columns.Goals as goal

pub loop-col-preserved : goal.loop-col-preserved
loop-col-preserved c =
    let (number, so) = c.loop-col.invariant in
    (number, λ alias. column-added _ _ _ _ _ _ c.in_ok-push.ensures.items (column-more alias (record { 0 = c.args.number }) (table_at c.args.cat.now c.args.table).names c.loop-col.col (omega (arith, number))) (so alias))

pub returns : goal.returns
returns c = λ alias.
    let (number, so) = c.loop-col.invariant in
    columns-done _ _ _ (column-end alias (record { 0 = c.args.number }) (table_at c.args.cat.now c.args.table).names c.loop-col.col (omega (arith, number))) (so alias)
