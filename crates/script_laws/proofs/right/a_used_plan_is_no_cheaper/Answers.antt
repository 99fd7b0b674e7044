use Rattle.script_laws.proofs.RightLemmas.{used-right}
use Rattle.script_laws.proofs.right.a_used_plan_is_no_cheaper.Goals as goal

pub returns : goal.returns
returns z = λ text before behind s q block first is. used-right text before behind s q block first is
