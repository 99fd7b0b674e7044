use Rattle.civil.proofs.NumericTextLemmas.{numeric-back}
use Rattle.civil.proofs.laws.numerics_are_read_back.Goals as goal

pub returns : goal.returns
returns c = numeric-back
