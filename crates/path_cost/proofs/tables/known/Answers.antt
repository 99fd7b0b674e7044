use Rattle.std.proofs.Common.{◌≡◌, ◌∙◌, ap, arith}
use Rattle.std.specs.Prelude.{Some}
use Rattle.std.proofs.lemmas.Grind.{common_steps}
use Rattle.pg_value.specs.declared.columns.Column.{Column}
use Rattle.catalog.specs.Contents.{stats_at}
use Rattle.catalog.specs.work.Entries.{statistics}
use Rattle.catalog.specs.Range.{table_of}
use Rattle.path_cost.specs.work.Relations.{range_of}
use Rattle.path_cost.proofs.ColumnLemmas.{column_laws, lent_lawful}
use Rattle.path_cost.proofs.tables.known.Goals as goal

pub returns-in-Some-clause-lawful : goal.returns-in-Some-clause-lawful
returns-in-Some-clause-lawful c =
    let e : stats_at c.args.cat.now (table_of (range_of c.args.relations) c.args.x) c.args.x.col ≡ Some (statistics c.in-Some.s.now) = grind (arith, common_steps, c.stats.ensures, c.in-Some.is, c.table-t.ensures) in
    lent_lawful c.args.cat.now (range_of c.args.relations) c.args.x c.lent.result (statistics c.in-Some.s.now) c.lawful.ensures
    (column_laws c.args.cat.now (range_of c.args.relations) c.args.x c.requires.tables c.requires.column).1 e c.lent.ensures.stats
    (c.lent.ensures.typed ∙ ap (λ (d : Column). d.typed) c.column-typed.ensures)
