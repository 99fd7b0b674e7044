use Rattle.scan_cover.proofs.ArmAtomLemmas.{arms-fit}
use Rattle.scan_cover.proofs.atoms.arms_fit.Goals as goal

pub returns : goal.returns
returns z = λ c q r p few es n bs are least. arms-fit c q r p few es n bs are least
