use Rattle.std.proofs.Common.{Vec, refl, sym, ◌∙◌, subst}
use Rattle.std.specs.declared.alloc.Global.{Global}
use Rattle.sql_grammar.specs.Syntax.{Include}
use Rattle.expr_reader.specs.work.Reads.{Reads}
use Rattle.expr_reader.specs.Lists.{bound_each}
use Rattle.index_reader.specs.declared.names.NamedColumn.{NamedColumn}
use Rattle.index_reader.specs.Keys.{name_bound, include_names}
use Rattle.index_reader.proofs.IncludeLemmas.{no-include, included}
use Rattle.index_reader.proofs.names.include.Goals as goal

pub returns-then-not-takes_free : goal.returns-then-not-takes_free
returns-then-not-takes_free c = λ tree rest ends is.
    no-include c.args.cat.now c.args.table tree rest c.args.from.now c.takes_free.new.self c.new.result c.new.ensures.items (c.if-not-takes_free.ensures.left refl) (c.if-not-takes_free.ensures.other refl) is

pub names-requires-clause-words : goal.names-requires-clause-words
names-requires-clause-words c =
    let (tree, rest, ends, is) = c.requires.words in
    let (token, took) = c.if-not-takes_free.ensures.took refl in
    let i = included tree rest c.takes_free.new.self token ends (sym took ∙ is) in
    (i.name, i.names, i.close, rest, c.skip.ensures ∙ i.words)

pub returns : goal.returns
returns c = λ tree rest ends is.
    let (token, took) = c.if-not-takes_free.ensures.took refl in
    let i = included tree rest c.takes_free.new.self token ends (sym took ∙ is) in
    subst (λ (x : Include). Reads (λ (v : Vec NamedColumn Global). v.items) (bound_each (name_bound c.args.cat.now c.args.table) (include_names x)) rest c.names.result c.names.new.from) (sym i.is)
    (c.names.ensures i.name i.names i.close rest (c.skip.ensures ∙ i.words))
