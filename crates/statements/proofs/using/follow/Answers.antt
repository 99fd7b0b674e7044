use Rattle.group_reply.specs.reply_Replies.{traces}
use Rattle.statements.specs.work.Claims.{world_at}
use Rattle.statements.proofs.AnsweringLemmas.{stops-by}
use Rattle.statements.proofs.TellingLemmas.{never-write, no-cause-told, refused-stops}
use Rattle.statements.proofs.using.follow.Goals as goal

pub returns-in_err-order-clause-stopped : goal.returns-in_err-order-clause-stopped
returns-in_err-order-clause-stopped g c =
    let at = c.args.at.now in
    let w = world_at at in
    let held = g.K.Sink.held c.args.out.now in
    let f = c.args.fetches.now in
    let l = c.args.reads.now in
    stops-by c.from_residual.result c.in_err-order.field-0.0 w at.text.now at.tokens.now (traces held f l) (traces held f l)
    (refused-stops w at.text.now at.tokens.now c.in_err-order.field-0.0 held f l (c.in_err-order.ensures.refused at.store.now.stored))
    c.from_residual.ensures.1

pub returns-in_err-order-clause-cause : goal.returns-in_err-order-clause-cause
returns-in_err-order-clause-cause g c =
    let at = c.args.at.now in
    no-cause-told c.from_residual.result c.in_err-order.field-0.0 (g.K.Sink.faults c.args.out.now)
    (never-write (world_at at) at.text.now at.tokens.now c.in_err-order.field-0.0 (c.in_err-order.ensures.refused at.store.now.stored))
    c.from_residual.ensures.1

pub print_told-requires-clause-ordered : goal.print_told-requires-clause-ordered
print_told-requires-clause-ordered g c = c.in_ok-order.ensures.ordered c.args.at.now.store.now.stored
