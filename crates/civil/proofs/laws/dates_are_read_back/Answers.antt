use Rattle.civil.proofs.DateTextLemmas.{date-back}
use Rattle.civil.proofs.laws.dates_are_read_back.Goals as goal

pub returns : goal.returns
returns c = date-back
