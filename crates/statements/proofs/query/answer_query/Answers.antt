use Rattle.group_reply.specs.reply_Replies.{traces}
use Rattle.statements.specs.work.Claims.{world_at}
use Rattle.statements.proofs.TellingLemmas.{never-write, no-cause-told, refused-stops}
use Rattle.statements.proofs.AnsweringLemmas.{answered-over, cause-by, printing-told, stops-by}
use Rattle.statements.proofs.query.answer_query.Goals as goal

pub returns-in_err-read-clause-stopped : goal.returns-in_err-read-clause-stopped
returns-in_err-read-clause-stopped g c =
    let at = c.args.at.now in
    let held = g.K.Sink.held c.args.out.now in
    let f = c.args.fetches.now in
    let l = c.args.reads.now in
    stops-by c.from_residual.result c.in_err-read.field-0.0 (world_at at) at.text.now at.tokens.now (traces held f l) (traces held f l)
    (refused-stops (world_at at) at.text.now at.tokens.now c.in_err-read.field-0.0 held f l (c.in_err-read.ensures.refused at.store.now.stored))
    c.from_residual.ensures.1

pub returns-in_err-read-clause-cause : goal.returns-in_err-read-clause-cause
returns-in_err-read-clause-cause g c =
    let at = c.args.at.now in
    no-cause-told c.from_residual.result c.in_err-read.field-0.0 (g.K.Sink.faults c.args.out.now)
    (never-write (world_at at) at.text.now at.tokens.now c.in_err-read.field-0.0 (c.in_err-read.ensures.refused at.store.now.stored))
    c.from_residual.ensures.1

pub returns-in-Ok-clause-answered : goal.returns-in-Ok-clause-answered
returns-in-Ok-clause-answered g c =
    let at = c.args.at.now in
    let stored = at.store.now.stored in
    answered-over (world_at at) at.text.now at.tokens.now c.in_ok-read.read (c.in_ok-read.ensures.read stored) (c.in_ok-read.ensures.unplanned stored)
    (traces (g.K.Sink.held c.args.out.now) c.args.fetches.now c.args.reads.now) (traces (g.K.Sink.held c.print.new.out) c.print.new.fetches c.print.new.reads)
    c.end.result c.end.ensures c.in-Ok.ensures.replied

pub returns-in-Err-clause-stopped : goal.returns-in-Err-clause-stopped
returns-in-Err-clause-stopped g c =
    let at = c.args.at.now in
    let stored = at.store.now.stored in
    printing-told (world_at at) at.text.now at.tokens.now c.in_ok-read.read (c.in_ok-read.ensures.read stored) (c.in_ok-read.ensures.unplanned stored)
    (traces (g.K.Sink.held c.args.out.now) c.args.fetches.now c.args.reads.now) (traces (g.K.Sink.held c.print.new.out) c.print.new.fetches c.print.new.reads)
    c.in-Err.stop c.unplanned.result c.stopped_at.result c.stopped_at.ensures c.unplanned.ensures c.in-Err.ensures.stopped c.in-Err.ensures.no_plan

pub returns-in-Err-clause-cause : goal.returns-in-Err-clause-cause
returns-in-Err-clause-cause g c = cause-by c.in-Err.stop c.unplanned.result c.stopped_at.result _ _ c.stopped_at.ensures c.in-Err.ensures.cause
