use Rattle.std.proofs.Common.{◌∷◌, ◌∙◌, refl, sym, ap, drop, subst, Ok, Result}
use Rattle.pg_base.specs.declared.faults.Fault.{Fault}
use Rattle.pg_base.specs.declared.numbers.TableNo.{TableNo}
use Rattle.sql_grammar.specs.declared.class.Symbol.TheVariants.{Dot}
use Rattle.sql_grammar.specs.Terminals.{t_mark}
use Rattle.expr_reader.specs.Conditions.{next}
use Rattle.catalog.specs.Contents.{table_at}
use Rattle.catalog.specs.Indexes.{type_at}
use Rattle.ddl_reader.specs.declared.ddl.Read.{Read}
use Rattle.ddl_reader.specs.Statistics.{sizes_reading, statistics_reading, column_of_name, commons_of, bounds_of}
use Rattle.ddl_reader.specs.work.AsMeant.{IsAsMeant, words_of_sizes, words_of_column}
use Rattle.ddl_reader.specs.Tables.{Reading}
use Rattle.ddl_reader.specs.work.Readings.{reading}
use Rattle.ddl_reader.proofs.Opened.{made-reads}
use Rattle.ddl_reader.proofs.Parts.{named}
use Rattle.ddl_reader.proofs.StatementWordLemmas.{sizes-left, table-told}
use Rattle.ddl_reader.proofs.statistics.statistics.Goals as goal

pub returns-then-takes_mark-clause-column : goal.returns-then-takes_mark-clause-column
returns-then-takes_mark-clause-column c = λ t m x a d b n cs h rest commons bounds is.
    let cat = c.args.cat.now in
    let one = named t (t_mark Dot m ∷ words_of_column x a d b n cs h rest) c.in_ok-title.title c.args.from.now c.name.new.from is c.in_ok-title.ensures in
    let (token, took) = c.if-takes_mark.ensures.took refl in
    let table = table-told cat t c.in_ok-title.title (Ok c.in_ok-table.table) one.0 c.in_ok-table.ensures.told in
    subst
    (λ (k : Result TableNo Fault). IsAsMeant Read Reading reading c.column.result
    (next k (λ i. next (column_of_name cat i x) (λ col. statistics_reading (type_at (table_at cat i).columns col) i col d n (commons_of cs) (bounds_of h)))))
    (sym table) (c.column.ensures x a d b n cs h rest commons bounds (ap (drop 1) (sym took ∙ one.1)))

pub sizes-requires : goal.sizes-requires
sizes-requires c =
    sizes-left c.args.from.now c.name.new.from c.takes_mark.new.self c.in_ok-title.title c.requires c.in_ok-title.ensures (c.if-takes_mark.ensures.other refl) (c.if-takes_mark.ensures.left refl)

pub returns-clause-sizes : goal.returns-clause-sizes
returns-clause-sizes c = λ t r rows b pages rest is.
    let one = named t (words_of_sizes r rows b pages rest) c.in_ok-title.title c.args.from.now c.name.new.from is c.in_ok-title.ensures in
    let table = table-told c.args.cat.now t c.in_ok-title.title (Ok c.in_ok-table.table) one.0 c.in_ok-table.ensures.told in
    made-reads c.sizes.result _ _ (c.sizes.ensures r rows b pages rest (c.if-takes_mark.ensures.left refl ∙ one.1)) (ap (λ (k : Result TableNo Fault). next k (λ i. Ok (sizes_reading rows pages i))) table)

pub returns-clause-column : goal.returns-clause-column
returns-clause-column c = λ t m x a d b n cs h rest commons bounds is.
    let one = named t (t_mark Dot m ∷ words_of_column x a d b n cs h rest) c.in_ok-title.title c.args.from.now c.name.new.from is c.in_ok-title.ensures in
    absurd (c.if-takes_mark.ensures.other refl _ (m, one.1))
