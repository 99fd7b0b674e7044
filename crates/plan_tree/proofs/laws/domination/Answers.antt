use Rattle.plan_tree.proofs.DominationLemmas.{dominates-refl, dominates-trans}
use Rattle.plan_tree.proofs.laws.domination.Goals as goal

pub returns : goal.returns
returns z = record { reflexive = dominates-refl; transitive = dominates-trans }
