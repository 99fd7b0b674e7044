use Rattle.std.proofs.Common.{[], ◌∷◌, ◌++◌, refl, ap, ◌∙◌, List, Vec}
use Rattle.std.proofs.lemmas.Result.{err_from_is_err_and}
use Rattle.std.specs.declared.alloc.Global.{Global}
use Rattle.sql_grammar.specs.declared.class.Symbol.TheVariants.{Close}
use Rattle.sql_grammar.specs.Terminals.{t_mark}
use Rattle.sql_grammar.specs.Words.{words_of_bounds}
use Rattle.expr_reader.specs.declared.value.Placed.{Placed}
use Rattle.ddl_reader.proofs.AnswerLemmas.{err-reads}
use Rattle.ddl_reader.proofs.ListLemmas.{first, next, at-fault, more, all-read}
use Rattle.ddl_reader.proofs.LiteralListLemmas.{bound_parts}
use Rattle.ddl_reader.proofs.literals.bounds.Goals as goal

pub returns-in_err-first-clause-read : goal.returns-in_err-first-clause-read
returns-in_err-first-clause-read c = λ x xs m rest is.
    let p = err_from_is_err_and c.from_residual.result c.from_residual.ensures.1 in
    let n = first (bound_parts c.args.t) x xs m rest c.args.from.now is in
    rw (p.1, p.2) (err-reads (λ (b : Placed). b) (λ (v : Vec Placed Global). v.items) c.in_err-first.field-0.0 _ _ (c.in_err-first.ensures.read x _ is) (λ f wrong. at-fault (bound_parts c.args.t) _ [] c.args.from.now m rest n f wrong))

pub more-init : goal.more-init
more-init c = λ x xs m rest is.
    let n = first (bound_parts c.args.t) x xs m rest c.args.from.now is in
    more (bound_parts c.args.t) _ [] c.push.new.self.items c.args.from.now c.bound.new.from m rest n c.in_ok-first.first
    (c.in_ok-first.ensures.read x _ is) (c.in_ok-first.ensures.left x _ is) (c.in_ok-push.ensures.items ∙ ap (λ (l : List Placed). l ++ c.in_ok-first.first ∷ []) c.new-all.ensures.items)

pub returns-in_err-next-clause-read : goal.returns-in_err-next-clause-read
returns-in_err-next-clause-read c = λ x xs m rest is.
    let p = err_from_is_err_and c.from_residual-in_err-next.result c.from_residual-in_err-next.ensures.1 in
    let (token, comma) = c.more-test.ensures.took refl in
    let n = next (bound_parts c.args.t) _ c.more.all.items c.more.from c.takes_mark.new.self token m rest comma (c.more.invariant x xs m rest is) in
    rw (p.1, p.2) (err-reads (λ (b : Placed). b) (λ (v : Vec Placed Global). v.items) c.in_err-next.field-0.0 _ _ (c.in_err-next.ensures.read n.y _ n.words) (λ f wrong. at-fault (bound_parts c.args.t) _ _ c.takes_mark.new.self m rest n f wrong))

pub more-preserved : goal.more-preserved
more-preserved c = λ x xs m rest is.
    let (token, comma) = c.more-test.ensures.took refl in
    let n = next (bound_parts c.args.t) _ c.more.all.items c.more.from c.takes_mark.new.self token m rest comma (c.more.invariant x xs m rest is) in
    more (bound_parts c.args.t) _ c.more.all.items c.push-in-more.new.self.items c.takes_mark.new.self c.bound-in-more.new.from m rest n c.in_ok-next.next
    (c.in_ok-next.ensures.read n.y _ n.words) (c.in_ok-next.ensures.left n.y _ n.words) c.in_ok-push-2.ensures.items

pub returns-clause-read : goal.returns-clause-read
returns-clause-read c = λ x xs m rest is. (all-read (bound_parts c.args.t) _ _ c.more.from m rest (c.more-test.ensures.other refl) (c.more.invariant x xs m rest is)).0

pub returns-clause-left : goal.returns-clause-left
returns-clause-left c = λ x xs m rest is. c.more-test.ensures.left refl ∙ (all-read (bound_parts c.args.t) _ _ c.more.from m rest (c.more-test.ensures.other refl) (c.more.invariant x xs m rest is)).1

pub bound-requires-in-more : goal.bound-requires-in-more
bound-requires-in-more c =
    let (x, xs, m, rest, is) = c.requires in
    let (token, comma) = c.more-test.ensures.took refl in
    let n = next (bound_parts c.args.t) _ c.more.all.items c.more.from c.takes_mark.new.self token m rest comma (c.more.invariant x xs m rest is) in
    (n.y, words_of_bounds n.ys ++ t_mark Close m ∷ rest, n.words)
