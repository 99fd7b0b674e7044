use Rattle.std.proofs.Common.{◌∙◌, refl, sym, ap, drop, Ok, Vec}
use Rattle.std.proofs.lemmas.Result.{err_from_is_err_and}
use Rattle.std.specs.declared.alloc.Global.{Global}
use Rattle.ddl_reader.specs.declared.literals.CommonRead.{CommonRead}
use Rattle.expr_reader.specs.Lists.{bound_each}
use Rattle.ddl_reader.specs.work.AsMeant.{common_placed}
use Rattle.ddl_reader.proofs.AnswerLemmas.{err-reads}
use Rattle.ddl_reader.proofs.LiteralListLemmas.{has-shares, no-shares}
use Rattle.ddl_reader.proofs.literals.common.Goals as goal

pub returns-then-not-takes_free-clause-read : goal.returns-then-not-takes_free-clause-read
returns-then-not-takes_free-clause-read c = λ h rest ends is.
    ap (bound_each (common_placed c.args.t)) (no-shares h rest c.args.from.now (c.if-not-takes_free.ensures.other refl) is).0 ∙ ap Ok (sym c.new.ensures.items)

pub returns-then-not-takes_free-clause-left : goal.returns-then-not-takes_free-clause-left
returns-then-not-takes_free-clause-left c = λ h rest ends is. c.if-not-takes_free.ensures.left refl ∙ (no-shares h rest c.args.from.now (c.if-not-takes_free.ensures.other refl) is).1

pub shares-requires : goal.shares-requires
shares-requires c =
    let (h, rest, ends, is) = c.requires in
    let (token, took) = c.if-not-takes_free.ensures.took refl in
    let o = has-shares h rest c.args.from.now c.takes_free.new.self token ends took is in
    (o.first, o.further, o.close, rest, c.skip.ensures ∙ o.words)

pub returns-in_err-all-clause-read : goal.returns-in_err-all-clause-read
returns-in_err-all-clause-read c = λ h rest ends is.
    let p = err_from_is_err_and c.from_residual.result c.from_residual.ensures.1 in
    let (token, took) = c.if-not-takes_free.ensures.took refl in
    let o = has-shares h rest c.args.from.now c.takes_free.new.self token ends took is in
    rw (p.1, p.2) (err-reads (λ (v : Vec CommonRead Global). v.items) (λ (v : Vec CommonRead Global). v.items) c.in_err-all.field-0.0 _ _ (c.in_err-all.ensures.read o.first o.further o.close rest (c.skip.ensures ∙ o.words))
    (λ f wrong. ap (bound_each (common_placed c.args.t)) o.is ∙ wrong))

pub returns-clause-read : goal.returns-clause-read
returns-clause-read c = λ h rest ends is.
    let (token, took) = c.if-not-takes_free.ensures.took refl in
    let o = has-shares h rest c.args.from.now c.takes_free.new.self token ends took is in
    ap (bound_each (common_placed c.args.t)) o.is ∙ c.in_ok-all.ensures.read o.first o.further o.close rest (c.skip.ensures ∙ o.words)

pub returns-clause-left : goal.returns-clause-left
returns-clause-left c = λ h rest ends is.
    let (token, took) = c.if-not-takes_free.ensures.took refl in
    let o = has-shares h rest c.args.from.now c.takes_free.new.self token ends took is in
    c.skip-2.ensures ∙ ap (drop 1) (c.in_ok-all.ensures.left o.first o.further o.close rest (c.skip.ensures ∙ o.words))
