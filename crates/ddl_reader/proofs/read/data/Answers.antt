use Rattle.std.proofs.Common.{Ok, Err, refl, subst}
use Rattle.std.proofs.lemmas.Result.{err_from_is_err_and}
use Rattle.sql_grammar.specs.CopyLine.{IsDataStart}
use Rattle.ddl_reader.proofs.StatementLemmas.{data-as, stop-at}
use Rattle.ddl_reader.proofs.read.data.Goals as goal

pub returns-in_err-start : goal.returns-in_err-start
returns-in_err-start c = λ k n null is.
    let p = err_from_is_err_and c.from_residual.result c.from_residual.ensures.1 in
    let (before, token, split, end) = c.last_end.ensures.last in
    let text = c.args.text.now in
    let at = stop-at k n null text c.args.tokens.now before token c.last_end.result c.args.from.now c.requires.all is split end in
    let begins = subst (λ e. IsDataStart text e (Err c.in_err-start.field-0.0)) at c.in_err-start.ensures in
    rw (p.1, p.2) (Err c.in_err-start.field-0.0, begins, refl)

pub returns : goal.returns
returns c = λ k n null is.
    let (before, token, split, end) = c.last_end.ensures.last in
    let text = c.args.text.now in
    let at = stop-at k n null text c.args.tokens.now before token c.last_end.result c.args.from.now c.requires.all is split end in
    let begins = subst (λ e. IsDataStart text e (Ok c.in_ok-start.start)) at c.in_ok-start.ensures in
    data-as c.args.cat.now text k n null c.copy.result c.in_ok-start.start begins (c.copy.ensures k n null is)
