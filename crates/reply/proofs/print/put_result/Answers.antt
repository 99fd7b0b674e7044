use Rattle.std.proofs.Common.{List, ℕ, ◌++◌, ◌∙◌, ap, subst}
use Rattle.std.proofs.lemmas.Result.{on_ok_weaker, on_err_weaker}
use Rattle.std.specs.Io.KnownBytes.{Appends}
use Rattle.pg_base.specs.Writing.{AppendsPrefix}
use Rattle.reply_text.specs.Texts.{count_line}
use Rattle.sql_query.specs.Meaning.{windowed}
use Rattle.reply.specs.Answers.{result_text, tuples_text}
use Rattle.reply.specs.work.Settings.{world_of}
use Rattle.reply.proofs.PuttingLemmas.{prefix_part, put_prefix, line_put, line_cut, flushed, flush_stopped}
use Rattle.pg_base.proofs.OptionLemmas.{on-err as on_err}
use Rattle.reply.proofs.print.put_result.Goals as goal

pub returns-in_err-count-clause-err : goal.returns-in_err-count-clause-err
returns-in_err-count-clause-err g c =
    let text = result_text (world_of c.args.at.now) c.args.at.now.q.now (windowed c.args.at.now.q.now.window c.args.rows.now.left) in
    let P : List ℕ → Type 0 = λ l. AppendsPrefix (g.K.Sink.held c.args.out.now) (g.K.Sink.held c.put_window.new.out) (l ++ text) in
    on_err c.from_residual-in_err-count.result _
    (subst P c.in_ok-page.ensures.pending (prefix_part _ _ c.in_ok-page.page.pending.items (tuples_text (world_of c.args.at.now) c.args.at.now.q.now (windowed c.args.at.now.q.now.window c.args.rows.now.left)) _ c.in_err-count.ensures.puts))

pub returns-in_err-line-clause-err : goal.returns-in_err-line-clause-err
returns-in_err-line-clause-err g c =
    let text = result_text (world_of c.args.at.now) c.args.at.now.q.now (windowed c.args.at.now.q.now.window c.args.rows.now.left) in
    let P : List ℕ → Type 0 = λ l. AppendsPrefix (g.K.Sink.held c.args.out.now) (g.K.Sink.held c.put_window.new.out) (l ++ text) in
    on_err c.from_residual-in_err-line.result _ (subst P c.in_ok-page.ensures.pending (put_prefix _ _ _ _ _ _ c.in_ok-count.ensures.puts))

pub returns-in_err-put-clause-err : goal.returns-in_err-put-clause-err
returns-in_err-put-clause-err g c =
    let text = result_text (world_of c.args.at.now) c.args.at.now.q.now (windowed c.args.at.now.q.now.window c.args.rows.now.left) in
    let P : List ℕ → Type 0 = λ l. AppendsPrefix (g.K.Sink.held c.args.out.now) (g.K.Sink.held c.put.new.out) (l ++ text) in
    on_err c.from_residual-in_err-put.result _
    (subst P c.in_ok-page.ensures.pending
    (line_cut _ _ _ _ _ _ _ _ (c.deref.ensures.value ∙ c.in_ok-line.ensures ∙ ap count_line c.in_ok-count.ensures.count) c.in_ok-count.ensures.puts c.in_err-put.ensures.puts))

pub returns-clause-ok : goal.returns-clause-ok
returns-clause-ok g c =
    let text = result_text (world_of c.args.at.now) c.args.at.now.q.now (windowed c.args.at.now.q.now.window c.args.rows.now.left) in
    let put =
    line_put _ _ _ _ _ _ _ _ _ (c.deref.ensures.value ∙ c.in_ok-line.ensures ∙ ap count_line c.in_ok-count.ensures.count) c.in_ok-count.ensures.puts c.in_ok-put.ensures.puts in
    let P : List ℕ → Type 0 = λ l. Appends (g.K.Sink.held c.put.new.out) (g.K.Sink.held c.flush.new.out) l in
    let Q : List ℕ → Type 0 = λ l. Appends (g.K.Sink.held c.args.out.now) (g.K.Sink.held c.flush.new.out) (l ++ text) in
    on_ok_weaker c.flush.result (λ some. subst Q c.in_ok-page.ensures.pending (flushed _ _ _ _ _ _ put (subst P c.deref-2.ensures.value some))) c.flush.ensures.ok

pub returns-clause-err : goal.returns-clause-err
returns-clause-err g c =
    let text = result_text (world_of c.args.at.now) c.args.at.now.q.now (windowed c.args.at.now.q.now.window c.args.rows.now.left) in
    let put =
    line_put _ _ _ _ _ _ _ _ _ (c.deref.ensures.value ∙ c.in_ok-line.ensures ∙ ap count_line c.in_ok-count.ensures.count) c.in_ok-count.ensures.puts c.in_ok-put.ensures.puts in
    let P : List ℕ → Type 0 = λ l. AppendsPrefix (g.K.Sink.held c.put.new.out) (g.K.Sink.held c.flush.new.out) l in
    let Q : List ℕ → Type 0 = λ l. AppendsPrefix (g.K.Sink.held c.args.out.now) (g.K.Sink.held c.flush.new.out) (l ++ text) in
    on_err_weaker c.flush.result (λ some. subst Q c.in_ok-page.ensures.pending (flush_stopped _ _ _ _ _ _ put (subst P c.deref-2.ensures.value some))) c.flush.ensures.err
