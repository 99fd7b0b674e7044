use Rattle.plan_laws.proofs.WellBoundLemmas.{bound-over}
use Rattle.planner.proofs.least_plan.plan.Goals as goal

pub plan_over-requires : goal.plan_over-requires
plan_over-requires c = record { query = bound-over c.args.cat.now c.args.q.now c.requires.bound }
