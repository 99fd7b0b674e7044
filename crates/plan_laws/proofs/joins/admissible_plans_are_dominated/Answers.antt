use Rattle.std.specs.Prelude.{Contains}
use Rattle.plan_laws.proofs.InductionLemmas.{undercut}
use Rattle.plan_laws.proofs.joins.admissible_plans_are_dominated.Goals as goal

pub returns : goal.returns
returns z = λ c q kept some closed. undercut c q (Contains kept) some closed
