use Rattle.certificate_laws.proofs.FrontsLemmas.{paths-kept}
use Rattle.certificate_laws.proofs.kept.searched_paths_are_kept.Goals as goal

pub returns : goal.returns
returns z = λ c q fronts paths some searched are. paths-kept c q fronts searched paths are some
