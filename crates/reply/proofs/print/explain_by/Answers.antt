use Rattle.std.proofs.Common.{List, ℕ, subst, ◌∙◌}
use Rattle.std.proofs.lemmas.Result.{on_ok_weaker, on_err_weaker}
use Rattle.std.specs.Io.KnownBytes.{Appends}
use Rattle.pg_base.specs.Writing.{AppendsPrefix}
use Rattle.explain.specs.Texts.{explained_text}
use Rattle.plan_tree.specs.work.Views.{path}
use Rattle.reply.proofs.PuttingLemmas.{prefix-none}
use Rattle.pg_base.proofs.OptionLemmas.{on-err as on_err}
use Rattle.reply.proofs.ReplyLemmas.{explained, explaining}
use Rattle.reply.proofs.print.explain_by.Goals as goal

pub returns-in_err-text-clause-err : goal.returns-in_err-text-clause-err
returns-in_err-text-clause-err g c =
    on_err c.from_residual.result _ (explaining c.args.cat.now c.args.q.now (path c.args.best.now).tree _ _ c.requires.best
    (prefix-none (g.K.Sink.held c.args.out.now) (explained_text c.args.cat.now c.args.q.now (path c.args.best.now).tree)))

pub returns-clause-ok : goal.returns-clause-ok
returns-clause-ok g c =
    let P : List ℕ → Type 0 = λ l. Appends (g.K.Sink.held c.args.out.now) (g.K.Sink.held c.flush.new.out) l in
    on_ok_weaker c.flush.result (λ some. explained c.args.cat.now c.args.q.now (path c.args.best.now).tree _ _ c.requires.best (subst P (c.deref.ensures.value ∙ c.in_ok-text.ensures) some)) c.flush.ensures.ok

pub returns-clause-err : goal.returns-clause-err
returns-clause-err g c =
    let P : List ℕ → Type 0 = λ l. AppendsPrefix (g.K.Sink.held c.args.out.now) (g.K.Sink.held c.flush.new.out) l in
    on_err_weaker c.flush.result (λ some. explaining c.args.cat.now c.args.q.now (path c.args.best.now).tree _ _ c.requires.best (subst P (c.deref.ensures.value ∙ c.in_ok-text.ensures) some)) c.flush.ensures.err
