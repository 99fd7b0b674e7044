use Rattle.plan_laws.proofs.FinishedOrderLemmas.{finished_is_ordered}
use Rattle.plan_laws.proofs.orders.finished_plans_are_ordered.Goals as goal

pub returns : goal.returns
returns c = finished_is_ordered
