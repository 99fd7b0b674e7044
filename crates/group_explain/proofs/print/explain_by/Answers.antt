use Rattle.std.proofs.Common.{List, ℕ, subst, ◌∙◌}
use Rattle.std.proofs.lemmas.Result.{on_ok_weaker, on_err_weaker}
use Rattle.std.specs.Io.KnownBytes.{Appends}
use Rattle.pg_base.specs.Writing.{AppendsPrefix}
use Rattle.reply.proofs.PuttingLemmas.{prefix-none}
use Rattle.pg_base.proofs.OptionLemmas.{on-err as on_err}
use Rattle.group_explain.proofs.ReplyLemmas.{explained, explaining, text_of}
use Rattle.group_explain.proofs.print.explain_by.Goals as goal

pub returns-in_err-text-clause-err : goal.returns-in_err-text-clause-err
returns-in_err-text-clause-err g c first is e =
    on_err c.from_residual.result _ (explaining c.args.cat.now first c.args.x.now is _ _
    (prefix-none (g.K.Sink.held c.args.out.now) (text_of c.args.cat.now first c.args.x.now is)))

pub returns-clause-ok : goal.returns-clause-ok
returns-clause-ok g c first is e =
    let P : List ℕ → Type 0 = λ l. Appends (g.K.Sink.held c.args.out.now) (g.K.Sink.held c.flush.new.out) l in
    on_ok_weaker c.flush.result (λ some. explained c.args.cat.now first c.args.x.now is _ _ (subst P (c.deref.ensures.value ∙ c.in_ok-text.ensures first e) some)) c.flush.ensures.ok

pub returns-clause-err : goal.returns-clause-err
returns-clause-err g c first is e =
    let P : List ℕ → Type 0 = λ l. AppendsPrefix (g.K.Sink.held c.args.out.now) (g.K.Sink.held c.flush.new.out) l in
    on_err_weaker c.flush.result (λ some. explaining c.args.cat.now first c.args.x.now is _ _ (subst P (c.deref.ensures.value ∙ c.in_ok-text.ensures first e) some)) c.flush.ensures.err
