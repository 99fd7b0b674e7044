use Rattle.std.proofs.Common.{List, ℕ, ◌++◌, ◌∙◌, subst}
use Rattle.std.proofs.lemmas.Result.{on_ok_weaker, on_err_weaker}
use Rattle.std.specs.Io.KnownBytes.{Appends}
use Rattle.pg_base.specs.Writing.{AppendsPrefix}
use Rattle.group_explain.specs.reply_PuttingLemmas.{put_prefix, line_put, line_cut, flushed, flush_stopped}
use Rattle.pg_base.proofs.OptionLemmas.{on-err as on_err}
use Rattle.group_reply.specs.Replies.{lines_text}
use Rattle.group_reply.proofs.lines.put_text.Goals as goal

pub returns-in_err-count-clause-err : goal.returns-in_err-count-clause-err
returns-in_err-count-clause-err g c =
    let P : List ℕ → Type 0 = λ l. AppendsPrefix (g.K.Sink.held c.args.out.now) (g.K.Sink.held c.put_lines.new.out) (l ++ lines_text c.args.types.now c.args.lines.now) in
    on_err c.from_residual-in_err-count.result _ (subst P c.in_ok-pending.ensures.items (put_prefix _ _ _ _ _ _ c.in_ok-put_lines.ensures.puts))

pub returns-in_err-put-clause-err : goal.returns-in_err-put-clause-err
returns-in_err-put-clause-err g c =
    let P : List ℕ → Type 0 = λ l. AppendsPrefix (g.K.Sink.held c.args.out.now) (g.K.Sink.held c.put.new.out) (l ++ lines_text c.args.types.now c.args.lines.now) in
    on_err c.from_residual-in_err-put.result _
    (subst P c.in_ok-pending.ensures.items (line_cut _ _ _ _ _ _ _ _ (c.deref.ensures.value ∙ c.in_ok-count.ensures) c.in_ok-put_lines.ensures.puts c.in_err-put.ensures.puts))

pub returns-clause-ok : goal.returns-clause-ok
returns-clause-ok g c =
    let put = line_put _ _ _ _ _ _ _ _ _ (c.deref.ensures.value ∙ c.in_ok-count.ensures) c.in_ok-put_lines.ensures.puts c.in_ok-put.ensures.puts in
    let P : List ℕ → Type 0 = λ l. Appends (g.K.Sink.held c.put.new.out) (g.K.Sink.held c.flush.new.out) l in
    let Q : List ℕ → Type 0 = λ l. Appends (g.K.Sink.held c.args.out.now) (g.K.Sink.held c.flush.new.out) (l ++ lines_text c.args.types.now c.args.lines.now) in
    on_ok_weaker c.flush.result (λ some. subst Q c.in_ok-pending.ensures.items (flushed _ _ _ _ _ _ put (subst P c.deref-2.ensures.value some))) c.flush.ensures.ok

pub returns-clause-err : goal.returns-clause-err
returns-clause-err g c =
    let put = line_put _ _ _ _ _ _ _ _ _ (c.deref.ensures.value ∙ c.in_ok-count.ensures) c.in_ok-put_lines.ensures.puts c.in_ok-put.ensures.puts in
    let P : List ℕ → Type 0 = λ l. AppendsPrefix (g.K.Sink.held c.put.new.out) (g.K.Sink.held c.flush.new.out) l in
    let Q : List ℕ → Type 0 = λ l. AppendsPrefix (g.K.Sink.held c.args.out.now) (g.K.Sink.held c.flush.new.out) (l ++ lines_text c.args.types.now c.args.lines.now) in
    on_err_weaker c.flush.result (λ some. subst Q c.in_ok-pending.ensures.items (flush_stopped _ _ _ _ _ _ put (subst P c.deref-2.ensures.value some))) c.flush.ensures.err
