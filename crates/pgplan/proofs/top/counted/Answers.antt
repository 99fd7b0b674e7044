use Rattle.pgplan.proofs.TopLemmas.{cause_over, has_field, run_over}
use Rattle.pgplan.proofs.top.counted.Goals as goal

pub returns-clause-answers : goal.returns-clause-answers
returns-clause-answers g c =
    run_over c.work-ended.result c.close.result c.args.text.now c.work-ended.new.machine c.catalog.result.now _ _ _ _ _ _
    (c.work-ended.ensures.done, c.work-ended.ensures.ended) c.catalog.ensures c.close.ensures.number c.close.ensures.line

pub returns-clause-cause : goal.returns-clause-cause
returns-clause-cause g c = cause_over c.work-ended.result c.close.result _ _ c.close.ensures.number c.work-ended.ensures.cause

pub close-requires : goal.close-requires
close-requires g c = record { field = has_field c.work-ended.result c.args.text.now c.work-ended.new.machine c.catalog.result.now _ _ c.work-ended.ensures.ended c.catalog.ensures }
