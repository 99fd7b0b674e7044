use Rattle.pgplan.proofs.TopLemmas.{cause_over}
use Rattle.pgplan.proofs.SampleLemmas.{sum_has_field, sum_over}
use Rattle.pgplan.proofs.sample.summed.Goals as goal

pub returns-clause-sums : goal.returns-clause-sums
returns-clause-sums g c =
    sum_over c.print_summary-ended.result c.close.result c.args.text.now c.print_summary-ended.new.machine c.catalog.result.now _ _ _ _ _ _
    (c.print_summary-ended.ensures.done, c.print_summary-ended.ensures.ended) c.catalog.ensures c.close.ensures.number c.close.ensures.line

pub returns-clause-cause : goal.returns-clause-cause
returns-clause-cause g c = cause_over c.print_summary-ended.result c.close.result _ _ c.close.ensures.number c.print_summary-ended.ensures.cause

pub close-requires : goal.close-requires
close-requires g c = record { field = sum_has_field c.print_summary-ended.result c.args.text.now c.print_summary-ended.new.machine c.catalog.result.now _ _ c.print_summary-ended.ensures.ended c.catalog.ensures }
