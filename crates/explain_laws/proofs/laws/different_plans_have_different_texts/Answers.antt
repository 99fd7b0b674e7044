use Rattle.explain_laws.proofs.PlanLemmas.{printed-tells, text-tells}
use Rattle.explain_laws.proofs.laws.different_plans_have_different_texts.Goals as goal

pub returns-clause-texts : goal.returns-clause-texts
returns-clause-texts z = λ c q a b lawful bound h g e. text-tells c q lawful bound a b h g e

pub returns-clause-printed : goal.returns-clause-printed
returns-clause-printed z = λ c q a b lawful bound h g e. printed-tells c q lawful bound a b h g e
