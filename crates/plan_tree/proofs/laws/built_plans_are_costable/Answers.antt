use Rattle.plan_tree.proofs.CostableLemmas.{built-costable}
use Rattle.plan_tree.proofs.laws.built_plans_are_costable.Goals as goal

pub returns : goal.returns
returns z = record { built = built-costable; sorted = λ c q keys p h. built-costable c q p h }
