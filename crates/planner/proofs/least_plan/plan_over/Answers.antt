use Rattle.planner.proofs.TableLemmas.{scans-handed}
use Rattle.planner.proofs.least_plan.plan_over.Goals as goal

pub plan_below-requires-clause-scans : goal.plan_below-requires-clause-scans
plan_below-requires-clause-scans c =
    λ r lt. scans-handed c.args.cat.now c.args.q.now c.in_ok-base.base c.in_ok-likely.likely.base c.in_ok-likely.ensures.scans r (c.in_ok-base.ensures.scans r lt)
