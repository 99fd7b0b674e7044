use Rattle.std.proofs.Common.{◌∙◌, arith}
use Rattle.plan_tree.specs.work.Views.{path}
use Rattle.reply.specs.work.Settings.{world_of}
use Rattle.reply.proofs.PuttingLemmas.{prefix-none}
use Rattle.pg_base.proofs.OptionLemmas.{on-err as on_err}
use Rattle.reply.proofs.ReplyLemmas.{answered_on, answering, answering_on}
use Rattle.reply.proofs.print.answer_by.Goals as goal

pub returns-in_err-text-clause-err : goal.returns-in_err-text-clause-err
returns-in_err-text-clause-err g c =
    let w = world_of c.args.at.now in
    let p = (path c.args.best.now).tree in
    on_err c.from_residual.result _
    (answering w c.args.at.now.q.now p c.requires.best
    (c.plans_give_their_tuples.ensures.finished w c.args.at.now.q.now p c.requires.setting.store.world c.requires.setting.bound c.requires.best.finished)
    (c.finished_plans_are_ordered.ensures w c.args.at.now.q.now p c.requires.setting.store.world c.requires.setting.bound c.requires.best.finished)
    (g.K.Sink.held c.args.out.now) (g.K.Sink.held c.args.out.now) c.args.fetches.now c.args.fetches.now c.args.reads.now c.args.reads.now (prefix-none _ _) (omega arith) (omega arith))

pub returns-in_err-rows-clause-err : goal.returns-in_err-rows-clause-err
returns-in_err-rows-clause-err g c =
    let w = world_of c.args.at.now in
    let p = (path c.args.best.now).tree in
    on_err c.from_residual-in_err-rows.result _
    (answering w c.args.at.now.q.now p c.requires.best
    (c.plans_give_their_tuples.ensures.finished w c.args.at.now.q.now p c.requires.setting.store.world c.requires.setting.bound c.requires.best.finished)
    (c.finished_plans_are_ordered.ensures w c.args.at.now.q.now p c.requires.setting.store.world c.requires.setting.bound c.requires.best.finished)
    (g.K.Sink.held c.args.out.now) (g.K.Sink.held c.args.out.now) c.args.fetches.now c.args.fetches.now c.args.reads.now c.args.reads.now (prefix-none _ _) (omega arith) (omega arith))

pub returns-clause-ok : goal.returns-clause-ok
returns-clause-ok g c =
    let w = world_of c.args.at.now in
    let p = (path c.args.best.now).tree in
    answered_on w c.args.at.now.q.now p c.requires.best
    (c.plans_give_their_tuples.ensures.finished w c.args.at.now.q.now p c.requires.setting.store.world c.requires.setting.bound c.requires.best.finished)
    (c.finished_plans_are_ordered.ensures w c.args.at.now.q.now p c.requires.setting.store.world c.requires.setting.bound c.requires.best.finished)
    c.deref.result.now c.in_ok-rows.rows (g.K.Sink.held c.args.out.now) (g.K.Sink.held c.put_result.new.out) c.args.fetches.now c.put_result.new.fetches c.args.reads.now c.put_result.new.reads
    (c.deref.ensures.value ∙ c.in_ok-text.ensures) c.in_ok-rows.ensures.left c.in_ok-rows.ensures.owed c.in_ok-rows.ensures.opening c.in_ok-rows.ensures.allowed c.in_ok-rows.ensures.one c.in_ok-rows.ensures.coming c.put_result.result c.put_result.ensures.ok c.put_result.ensures.fetches c.put_result.ensures.reads

pub returns-clause-err : goal.returns-clause-err
returns-clause-err g c =
    let w = world_of c.args.at.now in
    let p = (path c.args.best.now).tree in
    answering_on w c.args.at.now.q.now p c.requires.best
    (c.plans_give_their_tuples.ensures.finished w c.args.at.now.q.now p c.requires.setting.store.world c.requires.setting.bound c.requires.best.finished)
    (c.finished_plans_are_ordered.ensures w c.args.at.now.q.now p c.requires.setting.store.world c.requires.setting.bound c.requires.best.finished)
    c.deref.result.now c.in_ok-rows.rows (g.K.Sink.held c.args.out.now) (g.K.Sink.held c.put_result.new.out) c.args.fetches.now c.put_result.new.fetches c.args.reads.now c.put_result.new.reads
    (c.deref.ensures.value ∙ c.in_ok-text.ensures) c.in_ok-rows.ensures.left c.in_ok-rows.ensures.owed c.in_ok-rows.ensures.opening c.in_ok-rows.ensures.allowed c.in_ok-rows.ensures.one c.in_ok-rows.ensures.coming c.put_result.result c.put_result.ensures.err c.put_result.ensures.fewer c.put_result.ensures.reads
