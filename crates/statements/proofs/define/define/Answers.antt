use Rattle.std.proofs.Common.{arith, ap, length}
use Rattle.std.proofs.lemmas.Result.{err_from_is_err_and, IfErr-weaker, IfOk-weaker}
use Rattle.sql_query.specs.Worlds.{world}
use Rattle.statements.proofs.DefineLemmas.{read-refused, sizes-defined, sizes-told, sound-analysis, analysis-defined, analysis-told, statistics-defined, statistics-told, sound-table, table-told, table-defined, sound-data, data-told, data-defined, low-places}
use Rattle.statements.proofs.define.define.Goals as goal

pub returns-in_err-read-clause-refused : goal.returns-in_err-read-clause-refused
returns-in_err-read-clause-refused g c =
    let w = world c.args.catalog.now c.args.store.now.stored in
    let p = err_from_is_err_and c.from_residual.result c.from_residual.ensures.1 in
    rw (p.1, p.2) (read-refused w c.args.text.now c.args.tokens.now c.args.reads.now c.in_err-read.field-0.0 c.requires.opens c.in_err-read.ensures.refused)

pub table-requires-clause-width : goal.table-requires-clause-width
table-requires-clause-width g c =
    let w = world c.args.catalog.now c.args.store.now.stored in
    (sound-table w c.args.text.now c.args.tokens.now c.in_ok-read.read c.args.reads.now c.in-Table.name c.in-Table.names c.in-Table.columns c.in-Table.is c.in_ok-read.ensures.sound).width

pub table-requires-clause-name : goal.table-requires-clause-name
table-requires-clause-name g c =
    let w = world c.args.catalog.now c.args.store.now.stored in
    (sound-table w c.args.text.now c.args.tokens.now c.in_ok-read.read c.args.reads.now c.in-Table.name c.in-Table.names c.in-Table.columns c.in-Table.is c.in_ok-read.ensures.sound).name

pub table-requires-clause-names : goal.table-requires-clause-names
table-requires-clause-names g c =
    let w = world c.args.catalog.now c.args.store.now.stored in
    (sound-table w c.args.text.now c.args.tokens.now c.in_ok-read.read c.args.reads.now c.in-Table.name c.in-Table.names c.in-Table.columns c.in-Table.is c.in_ok-read.ensures.sound).names

pub table-requires-clause-places : goal.table-requires-clause-places
table-requires-clause-places g c =
    let w = world c.args.catalog.now c.args.store.now.stored in
    let sound = sound-table w c.args.text.now c.args.tokens.now c.in_ok-read.read c.args.reads.now c.in-Table.name c.in-Table.names c.in-Table.columns c.in-Table.is c.in_ok-read.ensures.sound in
    omega (arith, sound.places, ap length c.deref.ensures.value)

pub table-requires-clause-within : goal.table-requires-clause-within
table-requires-clause-within g c =
    let w = world c.args.catalog.now c.args.store.now.stored in
    let sound = sound-table w c.args.text.now c.args.tokens.now c.in_ok-read.read c.args.reads.now c.in-Table.name c.in-Table.names c.in-Table.columns c.in-Table.is c.in_ok-read.ensures.sound in
    low-places c.args.text.now c.in_ok-read.read.at.items c.deref.result.now c.deref.ensures.value c.requires.short sound.within

pub returns-in_err-table-in-Table-clause-refused : goal.returns-in_err-table-in-Table-clause-refused
returns-in_err-table-in-Table-clause-refused g c =
    let w = world c.args.catalog.now c.args.store.now.stored in
    let p = err_from_is_err_and c.from_residual-in_err-table-in-Table.result c.from_residual-in_err-table-in-Table.ensures.1 in
    rw (p.1, p.2) (
    table-told w c.args.text.now c.args.tokens.now c.in_ok-read.read c.args.reads.now c.in-Table.name c.in-Table.names c.in-Table.columns c.in-Table.is c.in_ok-read.ensures.read
    c.deref.result.now c.deref.ensures.value c.in_err-table-in-Table.field-0.0 c.in_err-table-in-Table.ensures.refused
    )

pub returns-in-Table-clause-defined : goal.returns-in-Table-clause-defined
returns-in-Table-clause-defined g c =
    let w = world c.args.catalog.now c.args.store.now.stored in
    let after = world c.table.new.catalog c.table.new.store.stored in
    table-defined w c.args.text.now c.args.tokens.now c.in_ok-read.read c.args.reads.now c.in-Table.name c.in-Table.names c.in-Table.columns c.in-Table.is c.in_ok-read.ensures.read
    after c.end.result c.in_ok-table-in-Table.ensures.accepted c.end.ensures c.in_ok-table-in-Table.ensures.made

pub data-requires-clause-start : goal.data-requires-clause-start
data-requires-clause-start g c =
    let w = world c.args.catalog.now c.args.store.now.stored in
    (sound-data w c.args.text.now c.args.tokens.now c.in_ok-read.read c.args.reads.now c.in-Copy.table c.in-Copy.start c.in-Copy.is c.in_ok-read.ensures.sound).1

pub data-requires-clause-table : goal.data-requires-clause-table
data-requires-clause-table g c =
    let w = world c.args.catalog.now c.args.store.now.stored in
    (sound-data w c.args.text.now c.args.tokens.now c.in_ok-read.read c.args.reads.now c.in-Copy.table c.in-Copy.start c.in-Copy.is c.in_ok-read.ensures.sound).0

pub returns-clause-defined : goal.returns-clause-defined
returns-clause-defined g c =
    let w = world c.args.catalog.now c.args.store.now.stored in
    let after = world c.data.new.catalog c.data.new.store.stored in
    IfOk-weaker c.data.result _ _ (λ next h. data-defined w c.args.text.now c.args.tokens.now c.in_ok-read.read c.args.reads.now c.in-Copy.table c.in-Copy.start c.in-Copy.is c.in_ok-read.ensures.read after c.data.new.reads next h.0 h.1 h.2 h.3 h.4 h.5) c.data.ensures.loaded

pub returns-clause-refused : goal.returns-clause-refused
returns-clause-refused g c =
    let w = world c.args.catalog.now c.args.store.now.stored in
    IfErr-weaker c.data.result _ _ (λ e h. data-told w c.args.text.now c.args.tokens.now c.in_ok-read.read c.args.reads.now c.in-Copy.table c.in-Copy.start c.in-Copy.is c.in_ok-read.ensures.read e c.data.new.reads h) c.data.ensures.refused

pub returns-in_err-size-in-Rows-clause-refused : goal.returns-in_err-size-in-Rows-clause-refused
returns-in_err-size-in-Rows-clause-refused g c =
    let w = world c.args.catalog.now c.args.store.now.stored in
    let p = err_from_is_err_and c.from_residual-in_err-size-in-Rows.result c.from_residual-in_err-size-in-Rows.ensures.1 in
    rw (p.1, p.2) (
    sizes-told w c.args.text.now c.args.tokens.now c.in_ok-read.read c.args.reads.now c.in-Rows.table c.in-Rows.rows c.in-Rows.pages c.in-Rows.is c.in_ok-read.ensures.read
    c.deref-in-Rows.result.now c.deref-in-Rows.ensures.value c.in_err-size-in-Rows.field-0.0 (c.in_err-size-in-Rows.ensures.refused c.args.store.now.stored c.args.text.now)
    )

pub returns-in-Rows-clause-defined : goal.returns-in-Rows-clause-defined
returns-in-Rows-clause-defined g c =
    let w = world c.args.catalog.now c.args.store.now.stored in
    sizes-defined w c.args.text.now c.args.tokens.now c.in_ok-read.read c.args.reads.now c.in-Rows.table c.in-Rows.rows c.in-Rows.pages c.in-Rows.is c.in_ok-read.ensures.read
    (world c.size.new.catalog c.args.store.now.stored) c.end-in-Rows.result c.in_ok-size-in-Rows.ensures.accepted.0 c.in_ok-size-in-Rows.ensures.accepted.1 c.end-in-Rows.ensures
    (c.in_ok-size-in-Rows.ensures.made c.args.store.now.stored)

pub returns-in_err-describe-in-Column-clause-refused : goal.returns-in_err-describe-in-Column-clause-refused
returns-in_err-describe-in-Column-clause-refused g c =
    let w = world c.args.catalog.now c.args.store.now.stored in
    let p = err_from_is_err_and c.from_residual-in_err-describe-in-Column.result c.from_residual-in_err-describe-in-Column.ensures.1 in
    rw (p.1, p.2) (
    statistics-told w c.args.text.now c.args.tokens.now c.in_ok-read.read c.args.reads.now c.in-Column.table c.in-Column.col c.in-Column.stats c.in-Column.is c.in_ok-read.ensures.read
    c.deref-in-Column.result.now c.deref-in-Column.ensures.value c.in_err-describe-in-Column.field-0.0 (c.in_err-describe-in-Column.ensures.refused c.args.store.now.stored c.args.text.now)
    )

pub returns-in-Column-clause-defined : goal.returns-in-Column-clause-defined
returns-in-Column-clause-defined g c =
    let w = world c.args.catalog.now c.args.store.now.stored in
    statistics-defined w c.args.text.now c.args.tokens.now c.in_ok-read.read c.args.reads.now c.in-Column.table c.in-Column.col c.in-Column.stats c.in-Column.is c.in_ok-read.ensures.read
    (world c.describe.new.catalog c.args.store.now.stored) c.end-in-Column.result c.in_ok-describe-in-Column.ensures.accepted c.end-in-Column.ensures
    (c.in_ok-describe-in-Column.ensures.made c.args.store.now.stored)

pub gather-requires-clause-table : goal.gather-requires-clause-table
gather-requires-clause-table g c =
    let w = world c.args.catalog.now c.args.store.now.stored in
    sound-analysis w c.args.text.now c.args.tokens.now c.in_ok-read.read c.args.reads.now c.in-Analyze.table c.in-Analyze.is c.in_ok-read.ensures.sound

pub returns-in_err-gather-in-Analyze-clause-refused : goal.returns-in_err-gather-in-Analyze-clause-refused
returns-in_err-gather-in-Analyze-clause-refused g c =
    let w = world c.args.catalog.now c.args.store.now.stored in
    let p = err_from_is_err_and c.from_residual-in_err-gather-in-Analyze.result c.from_residual-in_err-gather-in-Analyze.ensures.1 in
    rw p.1 (
    analysis-told w c.args.text.now c.args.tokens.now c.in_ok-read.read c.args.reads.now c.in-Analyze.table c.in-Analyze.is c.in_ok-read.ensures.read
    _ c.gather.new.reads p.2 c.gather.ensures.fewer
    )

pub returns-in-Analyze-clause-defined : goal.returns-in-Analyze-clause-defined
returns-in-Analyze-clause-defined g c =
    let w = world c.args.catalog.now c.args.store.now.stored in
    analysis-defined w c.args.text.now c.args.tokens.now c.in_ok-read.read c.args.reads.now c.in-Analyze.table c.in-Analyze.is c.in_ok-read.ensures.read
    (world c.gather.new.catalog c.args.store.now.stored) c.gather.new.reads c.end-in-Analyze.result c.end-in-Analyze.ensures c.in_ok-gather-in-Analyze.ensures.gathered c.in_ok-gather-in-Analyze.ensures.looks
