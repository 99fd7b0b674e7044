use Rattle.world_laws.proofs.DefinedLemmas.{index-may}
use Rattle.world_laws.proofs.worlds.indexes_may_be_made.Goals as goal

pub returns : goal.returns
returns z = index-may
