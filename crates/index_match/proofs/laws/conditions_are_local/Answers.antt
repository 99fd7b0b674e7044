use Rattle.index_match.proofs.PartLemmas.{conditions_local}
use Rattle.index_match.proofs.laws.conditions_are_local.Goals as goal

pub returns : goal.returns
returns c = conditions_local
