use Rattle.statements.specs.work.Claims.{world_at}
use Rattle.statements.proofs.TellingLemmas.{refused-by}
use Rattle.statements.proofs.AnsweringLemmas.{measured-over, measuring-told}
use Rattle.statements.proofs.query.measure_query.Goals as goal

pub returns-in_err-read-clause-refused : goal.returns-in_err-read-clause-refused
returns-in_err-read-clause-refused g c =
    let at = c.args.at.now in
    refused-by (world_at at) at.text.now at.tokens.now c.from_residual.result c.in_err-read.field-0.0 (c.in_err-read.ensures.refused at.store.now.stored) c.from_residual.ensures.1

pub returns-in-Ok-clause-tallied : goal.returns-in-Ok-clause-tallied
returns-in-Ok-clause-tallied g c =
    let at = c.args.at.now in
    let stored = at.store.now.stored in
    measured-over (world_at at) at.text.now at.tokens.now c.in_ok-read.read (c.in_ok-read.ensures.read stored) (c.in_ok-read.ensures.unplanned stored) c.in-Ok.measured c.in-Ok.ensures.tallied

pub returns-in-Err-clause-refused : goal.returns-in-Err-clause-refused
returns-in-Err-clause-refused g c =
    let at = c.args.at.now in
    let stored = at.store.now.stored in
    measuring-told (world_at at) at.text.now at.tokens.now c.in_ok-read.read (c.in_ok-read.ensures.read stored) (c.in_ok-read.ensures.unplanned stored)
    c.in-Err.stop c.unplanned.result c.stopped_at.result c.stopped_at.ensures c.unplanned.ensures c.in-Err.ensures.no_plan c.in-Err.ensures.unwritten
