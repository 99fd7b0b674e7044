use Rattle.std.proofs.Common.{[], ◌∷◌, ◌++◌, List, Vec, drop, refl, sym, ap, ◌∙◌}
use Rattle.std.specs.declared.alloc.Global.{Global}
use Rattle.sql_grammar.specs.declared.class.Symbol.TheVariants.{Close}
use Rattle.sql_grammar.specs.Terminals.{t_mark}
use Rattle.sql_grammar.specs.Words.{words_of_names}
use Rattle.expr_reader.proofs.ReadsLemmas.{read-ok, read-refused, was-read}
use Rattle.ddl_reader.proofs.ListLemmas.{first, next, at-fault, more, all-read}
use Rattle.index_reader.specs.declared.names.NamedColumn.{NamedColumn}
use Rattle.index_reader.proofs.ListPartLemmas.{name_parts}
use Rattle.index_reader.proofs.names.names.Goals as goal

pub one_name-requires-clause-words : goal.one_name-requires-clause-words
one_name-requires-clause-words c =
    let (x, xs, m, rest, is) = c.requires.words in
    (x, words_of_names xs ++ t_mark Close m ∷ rest, is)

pub returns-in_err-first : goal.returns-in_err-first
returns-in_err-first c = λ x xs m rest is.
    let p = name_parts c.args.cat.now c.args.table in
    let n = first p x xs m rest c.args.from.now is in
    read-refused NamedColumn (Vec NamedColumn Global) NamedColumn (List NamedColumn) (λ k. k) (λ v. v.items) _ _ _ _ _ _ _ _
    (c.in_err-first.ensures.read x _ is)
    (λ f wrong. at-fault p _ [] c.args.from.now m rest n f wrong) c.from_residual.ensures.1

pub more-init : goal.more-init
more-init c = λ x xs m rest is.
    let p = name_parts c.args.cat.now c.args.table in
    let n = first p x xs m rest c.args.from.now is in
    let d = c.in_ok-first.first in
    let w = was-read NamedColumn NamedColumn (λ k. k) _ d _ _ (c.in_ok-first.ensures.read x _ is) in
    more p _ [] c.push.new.self.items c.args.from.now c.one_name.new.from m rest n d w.meant w.words (c.in_ok-push.ensures.items ∙ ap (λ l. l ++ d ∷ []) c.new-all.ensures.items)

pub one_name-requires-in-more-clause-words : goal.one_name-requires-in-more-clause-words
one_name-requires-in-more-clause-words c =
    let (x, xs, m, rest, is) = c.requires.words in
    let (token, comma) = c.more-test.ensures.took refl in
    let n = next (name_parts c.args.cat.now c.args.table) _ c.more.all.items c.more.from c.takes_mark.new.self token m rest comma (c.more.invariant x xs m rest is) in
    (n.y, words_of_names n.ys ++ t_mark Close m ∷ rest, n.words)

pub returns-in_err-next : goal.returns-in_err-next
returns-in_err-next c = λ x xs m rest is.
    let p = name_parts c.args.cat.now c.args.table in
    let (token, comma) = c.more-test.ensures.took refl in
    let n = next p _ c.more.all.items c.more.from c.takes_mark.new.self token m rest comma (c.more.invariant x xs m rest is) in
    read-refused NamedColumn (Vec NamedColumn Global) NamedColumn (List NamedColumn) (λ k. k) (λ v. v.items) _ _ _ _ _ _ _ _
    (c.in_err-next.ensures.read n.y _ n.words)
    (λ f wrong. at-fault p _ _ c.takes_mark.new.self m rest n f wrong) c.from_residual-in_err-next.ensures.1

pub more-preserved : goal.more-preserved
more-preserved c = λ x xs m rest is.
    let p = name_parts c.args.cat.now c.args.table in
    let (token, comma) = c.more-test.ensures.took refl in
    let n = next p _ c.more.all.items c.more.from c.takes_mark.new.self token m rest comma (c.more.invariant x xs m rest is) in
    let d = c.in_ok-next.next in
    let w = was-read NamedColumn NamedColumn (λ k. k) _ d _ _ (c.in_ok-next.ensures.read n.y _ n.words) in
    more p _ c.more.all.items c.push-in-more.new.self.items c.takes_mark.new.self c.one_name-in-more.new.from m rest n d w.meant w.words c.in_ok-push-2.ensures.items

pub returns : goal.returns
returns c = λ x xs m rest is.
    let (all, left) = all-read (name_parts c.args.cat.now c.args.table) _ _ c.more.from m rest (c.more-test.ensures.other refl) (c.more.invariant x xs m rest is) in
    read-ok (Vec NamedColumn Global) (List NamedColumn) (λ v. v.items) _ c.more.all rest _ (sym all) (c.skip.ensures ∙ ap (drop 1) (c.more-test.ensures.left refl ∙ left))
