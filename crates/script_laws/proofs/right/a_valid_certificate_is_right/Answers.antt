use Rattle.script_laws.proofs.RightLemmas.{valid-right}
use Rattle.script_laws.proofs.right.a_valid_certificate_is_right.Goals as goal

pub returns : goal.returns
returns z = λ text before behind s q block first is valid. valid-right text before behind s q block first is valid
