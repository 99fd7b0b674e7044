use Rattle.plan_tree.specs.work.Views.{plan}
use Rattle.reply.specs.work.Settings.{world_of}
use Rattle.reply.proofs.PuttingLemmas.{prefix-none}
use Rattle.pg_base.proofs.OptionLemmas.{on-err as on_err}
use Rattle.plan_reply.proofs.ReplyLemmas.{begun-none, begun-on, replied-on}
use Rattle.plan_reply.proofs.answer.answer_by.Goals as goal

pub returns-in_err-rows-clause-err : goal.returns-in_err-rows-clause-err
returns-in_err-rows-clause-err g c =
    on_err c.from_residual.result _
    (begun-none (world_of c.args.at.now) c.args.at.now.q.now c.args.block.now (plan c.args.p.now) c.requires.setting.store.world c.requires.setting.bound c.requires.whole c.requires.good
    (g.K.Sink.held c.args.out.now) c.args.fetches.now c.args.reads.now (prefix-none _ _))

pub returns-clause-ok : goal.returns-clause-ok
returns-clause-ok g c =
    replied-on (world_of c.args.at.now) c.args.at.now.q.now c.args.block.now (plan c.args.p.now) c.requires.setting.store.world c.requires.setting.bound c.requires.whole c.requires.good
    c.in_ok-rows.rows (g.K.Sink.held c.args.out.now) (g.K.Sink.held c.put_result.new.out) c.args.fetches.now c.put_result.new.fetches c.args.reads.now c.put_result.new.reads
    c.in_ok-rows.ensures.left c.in_ok-rows.ensures.owed c.in_ok-rows.ensures.opening c.in_ok-rows.ensures.allowed c.in_ok-rows.ensures.one c.in_ok-rows.ensures.coming
    c.put_result.result c.put_result.ensures.ok c.put_result.ensures.fetches c.put_result.ensures.reads

pub returns-clause-err : goal.returns-clause-err
returns-clause-err g c =
    begun-on (world_of c.args.at.now) c.args.at.now.q.now c.args.block.now (plan c.args.p.now) c.requires.setting.store.world c.requires.setting.bound c.requires.whole c.requires.good
    c.in_ok-rows.rows (g.K.Sink.held c.args.out.now) (g.K.Sink.held c.put_result.new.out) c.args.fetches.now c.put_result.new.fetches c.args.reads.now c.put_result.new.reads
    c.in_ok-rows.ensures.left c.in_ok-rows.ensures.owed c.in_ok-rows.ensures.opening c.in_ok-rows.ensures.allowed c.in_ok-rows.ensures.one c.in_ok-rows.ensures.coming
    c.put_result.result c.put_result.ensures.err c.put_result.ensures.fewer c.put_result.ensures.reads
