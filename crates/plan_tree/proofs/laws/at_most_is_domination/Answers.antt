use Rattle.plan_tree.proofs.AtMostLemmas.{at-most-dominates, dominates-at-most}
use Rattle.plan_tree.proofs.laws.at_most_is_domination.Goals as goal

pub returns : goal.returns
returns z = λ c q a b h k. (at-most-dominates c q a b h k, dominates-at-most c q a b h k)
