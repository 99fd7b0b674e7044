use Rattle.scan_cover.proofs.AtomLemmas.{atoms-few}
use Rattle.scan_cover.proofs.atoms.few_atoms.Goals as goal

pub returns : goal.returns
returns z = λ c q bound. atoms-few c q bound
