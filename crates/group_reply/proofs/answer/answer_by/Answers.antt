use Rattle.std.proofs.Common.{◌≡◌, ◌∙◌, List, All, refl, subst, sym}
use Rattle.std.proofs.lemmas.Result.{on_err_weaker, on_ok_weaker}
use Rattle.sql_query.specs.Tuples.{Tuple}
use Rattle.plan_tree.specs.work.Views.{path}
use Rattle.executor.specs.work.Numbers.{IsTupleOf}
use Rattle.group_values.specs.work.Neighbours.{AreTogether}
use Rattle.group_values.specs.declared.form.Form.TheVariants.{Sorted}
use Rattle.group_explain.specs.work.Plans.{input_base}
use Rattle.pg_base.proofs.OptionLemmas.{on-err as on_err}
use Rattle.group_explain.specs.reply_Settings.{world_of}
use Rattle.group_reply.specs.work.Drawing.{drawn_reply, seen_all}
use Rattle.group_reply.proofs.DrawnLemmas.{begun-drawing, begun-drawn, begun-none, replied-drawn}
use Rattle.group_reply.proofs.PrintableLemmas.{lines-printable}
use Rattle.group_reply.proofs.answer.answer_by.Goals as goal

pub draw_lines-requires-clause-tuples : goal.draw_lines-requires-clause-tuples
draw_lines-requires-clause-tuples g c =
    let P : List Tuple → Type 0 = λ ts. All (IsTupleOf (world_of c.args.at.now) c.args.at.now.q.now) ts in
    subst P (sym c.in_ok-rows.ensures.left)
    (c.tuples_have_rows.ensures (world_of c.args.at.now) c.args.at.now.q.now (path c.args.chosen.now.input).tree c.requires.setting.store.world c.requires.setting.bound c.requires.input.finished)

pub draw_lines-requires-clause-together : goal.draw_lines-requires-clause-together
draw_lines-requires-clause-together g c =
    let P : List Tuple → Type 0 = λ ts. c.args.chosen.now.plan.form ≡ Sorted → AreTogether (seen_all (world_of c.args.at.now) c.args.at.now.q.now c.args.g.now ts) in
    subst P (sym c.in_ok-rows.ensures.left) c.requires.input.together

pub put_answer-requires-clause-printable : goal.put_answer-requires-clause-printable
put_answer-requires-clause-printable g c =
    lines-printable (world_of c.args.at.now) c.args.at.now.q.now c.args.g.now
    (λ t. c.values_fit_their_types.ensures (world_of c.args.at.now) c.args.at.now.q.now t c.requires.setting.store.world)
    c.args.chosen.now.plan c.in_ok-rows.rows.left c.items.result.now (c.items.ensures ∙ c.in_ok-lines.ensures.lines)

pub returns-in_err-text-clause-err : goal.returns-in_err-text-clause-err
returns-in_err-text-clause-err g c = λ asked over.
    on_err c.from_residual.result _
    (begun-none (drawn_reply (world_of c.args.at.now) c.args.at.now.q.now asked c.args.chosen.now.task c.args.chosen.now.plan (path c.args.chosen.now.input).tree) (g.K.Sink.held c.args.out.now)
    c.args.fetches.now c.args.reads.now)

pub returns-in_err-rows-clause-err : goal.returns-in_err-rows-clause-err
returns-in_err-rows-clause-err g c = λ asked over.
    on_err c.from_residual-in_err-rows.result _
    (begun-none (drawn_reply (world_of c.args.at.now) c.args.at.now.q.now asked c.args.chosen.now.task c.args.chosen.now.plan (path c.args.chosen.now.input).tree) (g.K.Sink.held c.args.out.now)
    c.args.fetches.now c.args.reads.now)

pub returns-in_err-lines-clause-err : goal.returns-in_err-lines-clause-err
returns-in_err-lines-clause-err g c = λ asked over.
    on_err c.from_residual-in_err-lines.result _
    (begun-drawing (world_of c.args.at.now) c.args.at.now.q.now asked c.args.chosen.now.task c.args.chosen.now.plan (path c.args.chosen.now.input).tree c.in_ok-rows.rows c.in_ok-rows.ensures.left
    c.in_ok-rows.ensures.owed c.in_ok-rows.ensures.allowed (g.K.Sink.held c.args.out.now) (g.K.Sink.held c.args.out.now) c.args.fetches.now c.draw_lines.new.fetches c.args.reads.now c.draw_lines.new.reads
    c.in_err-lines.ensures.reads refl c.in_err-lines.ensures.fewer)

pub returns-clause-ok : goal.returns-clause-ok
returns-clause-ok g c = λ asked over.
    on_ok_weaker c.put_answer.result
    (λ some.
    replied-drawn (world_of c.args.at.now) c.args.at.now.q.now asked c.args.chosen.now.task c.args.chosen.now.plan (path c.args.chosen.now.input).tree c.in_ok-rows.rows c.in_ok-rows.ensures.left
    c.in_ok-rows.ensures.owed c.in_ok-rows.ensures.allowed (g.K.Sink.held c.args.out.now) (g.K.Sink.held c.put_answer.new.out) c.args.fetches.now c.draw_lines.new.fetches c.args.reads.now c.draw_lines.new.reads
    c.in_ok-lines.ensures.reads c.args.g.now (input_base c.args.chosen.now.plan.form asked) over c.deref.result.now (c.deref.ensures.value ∙ c.in_ok-text.ensures asked over) c.items.result.now
    (c.items.ensures ∙ c.in_ok-lines.ensures.lines) c.in_ok-lines.ensures.fetches some)
    c.put_answer.ensures.ok

pub returns-clause-err : goal.returns-clause-err
returns-clause-err g c = λ asked over.
    on_err_weaker c.put_answer.result
    (λ some.
    begun-drawn (world_of c.args.at.now) c.args.at.now.q.now asked c.args.chosen.now.task c.args.chosen.now.plan (path c.args.chosen.now.input).tree c.in_ok-rows.rows c.in_ok-rows.ensures.left
    c.in_ok-rows.ensures.owed c.in_ok-rows.ensures.allowed (g.K.Sink.held c.args.out.now) (g.K.Sink.held c.put_answer.new.out) c.args.fetches.now c.draw_lines.new.fetches c.args.reads.now c.draw_lines.new.reads
    c.in_ok-lines.ensures.reads c.args.g.now (input_base c.args.chosen.now.plan.form asked) over c.deref.result.now (c.deref.ensures.value ∙ c.in_ok-text.ensures asked over) c.items.result.now
    (c.items.ensures ∙ c.in_ok-lines.ensures.lines) c.in_ok-lines.ensures.fetches some)
    c.put_answer.ensures.err
