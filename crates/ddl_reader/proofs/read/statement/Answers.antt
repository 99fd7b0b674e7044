use Rattle.std.proofs.Common.{◌∙◌, refl, sym, ap, subst}
use Rattle.sql_grammar.specs.declared.class.Word.TheVariants.{Create}
use Rattle.sql_grammar.specs.declared.class.Free.TheVariants.{Analyze, Statistics}
use Rattle.sql_grammar.specs.Terminals.{free, t_key, t_name}
use Rattle.sql_grammar.specs.Words.{words_of, words_of_ending}
use Rattle.sql_grammar.specs.Faults.{terminals}
use Rattle.expr_reader.specs.work.Reading.{BeginsNot}
use Rattle.ddl_reader.specs.work.Statements.{begins_ddl}
use Rattle.ddl_reader.specs.work.Readings.{ReadsAs}
use Rattle.ddl_reader.proofs.StatementLemmas.{creates, loads, describes, analyzes, table-as, statistics-as, analysis-as}
use Rattle.ddl_reader.proofs.read.statement.Goals as goal

pub table-requires : goal.table-requires
table-requires c =
    let (x, is) = c.requires.tree in
    let (token, took) = c.if-takes.ensures.took refl in
    let t = creates x token c.takes.new.self (ap begins_ddl is ∙ c.requires.opens) (is ∙ (sym c.new-from.ensures ∙ took)) in
    (t.name, t.opening, t.column, t.columns, t.closing, words_of_ending t.ending, c.skip.ensures ∙ t.words)

pub returns-then-takes : goal.returns-then-takes
returns-then-takes c = λ x is.
    let (token, took) = c.if-takes.ensures.took refl in
    let t = creates x token c.takes.new.self (ap begins_ddl is ∙ c.requires.opens) (is ∙ (sym c.new-from.ensures ∙ took)) in
    table-as c.args.cat.now c.args.text.now x c.takes.new.self c.table.result t
    (c.table.ensures t.name t.opening t.column t.columns t.closing (words_of_ending t.ending) (c.skip.ensures ∙ t.words))

pub statistics-requires : goal.statistics-requires
statistics-requires c =
    let (x, is) = c.requires.tree in
    let (token, took) = c.if-takes_free.ensures.took refl in
    describes x token c.takes_free.new.self (is ∙ (sym (c.if-takes.ensures.left refl ∙ c.new-from.ensures) ∙ took))

pub returns-then-takes_free : goal.returns-then-takes_free
returns-then-takes_free c = λ x is.
    let (token, took) = c.if-takes_free.ensures.took refl in
    statistics-as c.args.cat.now c.args.text.now x token c.takes_free.new.self c.statistics.result (is ∙ (sym (c.if-takes.ensures.left refl ∙ c.new-from.ensures) ∙ took)) c.statistics.ensures.sizes c.statistics.ensures.column

pub analysis-requires : goal.analysis-requires
analysis-requires c =
    let (x, is) = c.requires.tree in
    let (token, took) = c.if-takes_free-2.ensures.took refl in
    let first = c.if-takes_free.ensures.left refl ∙ (c.if-takes.ensures.left refl ∙ c.new-from.ensures) in
    analyzes x token c.takes_free-2.new.self (is ∙ (sym first ∙ took))

pub returns-then-takes_free-2 : goal.returns-then-takes_free-2
returns-then-takes_free-2 c = λ x is.
    let (token, took) = c.if-takes_free-2.ensures.took refl in
    let first = c.if-takes_free.ensures.left refl ∙ (c.if-takes.ensures.left refl ∙ c.new-from.ensures) in
    analysis-as c.args.cat.now c.args.text.now x token c.takes_free-2.new.self c.analysis.result (is ∙ (sym first ∙ took)) c.analysis.ensures

pub data-requires-clause-copy : goal.data-requires-clause-copy
data-requires-clause-copy c =
    let (x, is) = c.requires.tree in
    let first = c.if-takes.ensures.left refl ∙ c.new-from.ensures in
    let second = c.if-takes_free.ensures.left refl ∙ first in
    let left = c.if-takes_free-2.ensures.left refl ∙ second in
    let others = subst (BeginsNot (λ token. t_name (free Statistics token))) first (c.if-takes_free.ensures.other refl) in
    let none = subst (BeginsNot (λ token. t_name (free Analyze token))) second (c.if-takes_free-2.ensures.other refl) in
    let (k, n, null, copy) = loads x (terminals c.args.text.now c.args.tokens.now) is c.requires.opens (subst (BeginsNot (t_key Create)) c.new-from.ensures (c.if-takes.ensures.other refl)) others none in
    (k, n, null, left ∙ (sym is ∙ ap words_of copy))

pub returns : goal.returns
returns c = λ x is.
    let first = c.if-takes.ensures.left refl ∙ c.new-from.ensures in
    let second = c.if-takes_free.ensures.left refl ∙ first in
    let left = c.if-takes_free-2.ensures.left refl ∙ second in
    let others = subst (BeginsNot (λ token. t_name (free Statistics token))) first (c.if-takes_free.ensures.other refl) in
    let none = subst (BeginsNot (λ token. t_name (free Analyze token))) second (c.if-takes_free-2.ensures.other refl) in
    let (k, n, null, copy) = loads x (terminals c.args.text.now c.args.tokens.now) is c.requires.opens (subst (BeginsNot (t_key Create)) c.new-from.ensures (c.if-takes.ensures.other refl)) others none in
    subst (λ y. ReadsAs c.args.cat.now c.args.text.now y c.data.result) (sym copy) (c.data.ensures k n null (left ∙ (sym is ∙ ap words_of copy)))
