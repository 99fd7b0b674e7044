use Rattle.std.proofs.Common.{◌∙◌, ap, drop, refl}
use Rattle.expr_reader.proofs.SortLemmas.{no-nulls, is-last}
use Rattle.expr_reader.proofs.sort.nulls_first.Goals as goal

pub returns-then-not-takes_free-clause-read : goal.returns-then-not-takes_free-clause-read
returns-then-not-takes_free-clause-read c = λ z rest ends is.
    no-nulls z rest c.args.from.now c.takes_free.new.self c.args.descending (c.if-not-takes_free.ensures.left refl) (c.if-not-takes_free.ensures.other refl) is

pub returns-clause-read : goal.returns-clause-read
returns-clause-read c = λ z rest ends is.
    let (token, took) = c.if-not-takes_free.ensures.took refl in
    is-last z rest c.args.from.now c.takes_free.new.self c.skip.new.self token c.args.descending ends took (c.if-takes_free.ensures.other refl)
    (c.skip.ensures ∙ ap (drop 1) (c.if-takes_free.ensures.left refl)) is
