use Rattle.std.specs.Prelude.{Contains}
use Rattle.plan_laws.proofs.UsefulLemmas.{enough}
use Rattle.plan_laws.proofs.joins.kept_plans_suffice.Goals as goal

pub returns : goal.returns
returns z = λ c q every kept limit some closed. enough c q every (Contains kept) limit some closed
