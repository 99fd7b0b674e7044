use Rattle.catalog.proofs.LawfulLemmas.{few_indexes}
use Rattle.catalog.proofs.laws.index_laws.Goals as goal

pub returns : goal.returns
returns c = few_indexes
