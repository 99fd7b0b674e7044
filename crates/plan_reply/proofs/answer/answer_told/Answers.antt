use Rattle.std.proofs.Common.{subst}
use Rattle.reply.specs.work.Settings.{world_of}
use Rattle.plan_reply.specs.work.Told.{IsTold}
use Rattle.plan_reply.proofs.ReplyLemmas.{line-begun, line-replied}
use Rattle.plan_reply.proofs.answer.answer_told.Goals as goal

pub returns-in-Line-clause-ok : goal.returns-in-Line-clause-ok
returns-in-Line-clause-ok g c =
    line-replied (world_of c.args.at.now) c.args.at.now.q.now c.args.block.now c.in-Line.line.items
    (subst (IsTold c.args.at.now.cat.now c.args.at.now.q.now c.args.block.now) c.in-Line.is c.requires.told)
    (g.K.Sink.held c.args.out.now) (g.K.Sink.held c.flush.new.out) c.args.fetches.now c.args.reads.now c.flush.result c.deref.result.now c.deref.ensures.value c.flush.ensures.ok

pub returns-in-Line-clause-err : goal.returns-in-Line-clause-err
returns-in-Line-clause-err g c =
    line-begun (world_of c.args.at.now) c.args.at.now.q.now c.args.block.now c.in-Line.line.items
    (subst (IsTold c.args.at.now.cat.now c.args.at.now.q.now c.args.block.now) c.in-Line.is c.requires.told)
    (g.K.Sink.held c.args.out.now) (g.K.Sink.held c.flush.new.out) c.args.fetches.now c.args.reads.now c.flush.result c.deref.result.now c.deref.ensures.value c.flush.ensures.err
