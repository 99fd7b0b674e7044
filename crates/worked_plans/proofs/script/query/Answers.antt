use Rattle.plan_laws.proofs.WellBoundLemmas.{bound-over}
use Rattle.worked_plans.proofs.script.query.Goals as goal

pub returns-clause-over : goal.returns-clause-over
returns-clause-over c = bound-over c.args.cat.now c.in_ok-q.q c.in_ok-q.ensures.well_bound

pub returns-clause-some : goal.returns-clause-some
returns-clause-some c = c.in_ok-q.ensures.well_bound.range.some
