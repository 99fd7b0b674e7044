use Rattle.std.specs.Prelude.{Contains}
use Rattle.plan_laws.proofs.LeastLemmas.{least-of-all}
use Rattle.plan_laws.proofs.joins.least_kept_plan_is_least.Goals as goal

pub returns : goal.returns
returns z = λ c q every kept limit some closed b least below. least-of-all c q every (Contains kept) limit some closed b least below
