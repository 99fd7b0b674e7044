use Rattle.std.proofs.Common.{◌++◌, length, length-append, sym, ap, subst, ◌∙◌, arith}
use Rattle.sql_grammar.specs.Words.{words_of_coldef, words_of_nulls, words_of_type}
use Rattle.expr_reader.specs.declared.cursor.Spelled.{Spelled}
use Rattle.ddl_reader.specs.declared.columns.ColumnDef.{ColumnDef}
use Rattle.ddl_reader.specs.Columns.{BoundColumn, bound_column, defined_column, kind_of}
use Rattle.ddl_reader.specs.work.AsMeant.{IsAsMeant, seen}
use Rattle.ddl_reader.specs.work.Columns.{written_column}
use Rattle.ddl_reader.proofs.AnswerLemmas.{told-reads}
use Rattle.ddl_reader.proofs.Parts.{named}
use Rattle.ddl_reader.proofs.TypeLemmas.{column-next, column-nulls, column-type, on-ok}
use Rattle.ddl_reader.proofs.columns.one_column.Goals as goal

pub name-requires : goal.name-requires
name-requires c =
    let (x, rest, ends, is) = c.requires in
    let a = column-next x rest c.args.from.now is in
    (a.name, words_of_type a.kind ++ (words_of_nulls a.nulls ++ rest), a.words)

pub type_read-requires : goal.type_read-requires
type_read-requires c =
    let (x, rest, ends, is) = c.requires in
    let a = column-next x rest c.args.from.now is in
    let told = named a.name (words_of_type a.kind ++ (words_of_nulls a.nulls ++ rest)) c.in_ok-title.title c.args.from.now c.name.new.from a.words c.in_ok-title.ensures in
    (a.kind, words_of_nulls a.nulls ++ rest, column-type a.nulls rest ends, told.1)

pub returns-clause-read : goal.returns-clause-read
returns-clause-read c = λ x rest ends is.
    let a = column-next x rest c.args.from.now is in
    let told = named a.name (words_of_type a.kind ++ (words_of_nulls a.nulls ++ rest)) c.in_ok-title.title c.args.from.now c.name.new.from a.words c.in_ok-title.ensures in
    let typed = c.in_ok-kind.ensures a.kind (words_of_nulls a.nulls ++ rest) (column-type a.nulls rest ends) told.1 in
    let nulls = c.not_null-not_null.ensures.read a.nulls rest (column-nulls rest ends) typed.1 in
    let meant = ap (λ (s : Spelled). written_column s (kind_of a.kind) c.not_null-not_null.result) told.0 ∙ (ap (written_column _ (kind_of a.kind)) nulls.0 ∙ sym (ap defined_column a.def)) in
    subst (λ w. IsAsMeant ColumnDef BoundColumn seen c.bind.result (bound_column w)) meant (told-reads ColumnDef BoundColumn seen c.bind.result _ (c.bind.ensures (kind_of a.kind) typed.0))

pub returns-clause-left : goal.returns-clause-left
returns-clause-left c = on-ok c.bind.result (λ x rest ends is.
    let a = column-next x rest c.args.from.now is in
    let told = named a.name (words_of_type a.kind ++ (words_of_nulls a.nulls ++ rest)) c.in_ok-title.title c.args.from.now c.name.new.from a.words c.in_ok-title.ensures in
    let typed = c.in_ok-kind.ensures a.kind (words_of_nulls a.nulls ++ rest) (column-type a.nulls rest ends) told.1 in
    (c.not_null-not_null.ensures.read a.nulls rest (column-nulls rest ends) typed.1).1)

pub returns-clause-ahead : goal.returns-clause-ahead
returns-clause-ahead c =
    let (x, rest, ends, is) = c.requires in
    let a = column-next x rest c.args.from.now is in
    let told = named a.name (words_of_type a.kind ++ (words_of_nulls a.nulls ++ rest)) c.in_ok-title.title c.args.from.now c.name.new.from a.words c.in_ok-title.ensures in
    let typed = c.in_ok-kind.ensures a.kind (words_of_nulls a.nulls ++ rest) (column-type a.nulls rest ends) told.1 in
    let left = ap length (c.not_null-not_null.ensures.read a.nulls rest (column-nulls rest ends) typed.1).1 in
    let all = ap length is in
    let parts = length-append (words_of_coldef x) rest in
    on-ok c.bind.result (omega (arith, left, all, parts))
