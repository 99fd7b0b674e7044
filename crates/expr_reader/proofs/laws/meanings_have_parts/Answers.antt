use Rattle.expr_reader.proofs.PartedLemmas.{meaning-parted}
use Rattle.expr_reader.proofs.laws.meanings_have_parts.Goals as goal

pub returns : goal.returns
returns c = λ scope types e x is. meaning-parted scope types e x is
