use Rattle.std.proofs.Common.{slice_range}
use Rattle.group_reply.specs.reply_Replies.{traces}
use Rattle.statements.specs.work.Claims.{world_at}
use Rattle.statements.proofs.UsingLemmas.{broken-cause, broken-told, followed}
use Rattle.statements.proofs.using.print_told.Goals as goal

pub returns-in-Ok-clause-answered : goal.returns-in-Ok-clause-answered
returns-in-Ok-clause-answered g c =
    let at = c.args.at.now in
    let order = c.args.order.now in
    followed (world_at at) at.text.now at.tokens.now order.query (slice_range at.text.now order.start order.end) order.next c.requires.ordered.read
    (traces (g.K.Sink.held c.args.out.now) c.args.fetches.now c.args.reads.now) (traces (g.K.Sink.held c.answer_told.new.out) c.answer_told.new.fetches c.answer_told.new.reads)
    c.in-Ok.ensures.ok

pub returns-in-Err-clause-stopped : goal.returns-in-Err-clause-stopped
returns-in-Err-clause-stopped g c =
    let at = c.args.at.now in
    let order = c.args.order.now in
    broken-told (world_at at) at.text.now at.tokens.now order.query (slice_range at.text.now order.start order.end) order.next c.requires.ordered.read
    c.in-Err.broken c.broken_off.result
    (traces (g.K.Sink.held c.args.out.now) c.args.fetches.now c.args.reads.now) (traces (g.K.Sink.held c.answer_told.new.out) c.answer_told.new.fetches c.answer_told.new.reads)
    c.broken_off.ensures c.in-Err.ensures.err

pub returns-in-Err-clause-cause : goal.returns-in-Err-clause-cause
returns-in-Err-clause-cause g c = broken-cause c.in-Err.broken c.broken_off.result _ _ c.broken_off.ensures c.in-Err.ensures.cause
