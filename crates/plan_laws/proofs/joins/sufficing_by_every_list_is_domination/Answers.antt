use Rattle.std.proofs.Common.{true}
use Rattle.plan_laws.proofs.UsefulLemmas.{dominates-suffices, suffices-dominates}
use Rattle.plan_laws.proofs.joins.sufficing_by_every_list_is_domination.Goals as goal

pub returns : goal.returns
returns z = λ c q p other. (suffices-dominates c q p other, dominates-suffices c q true p other)
