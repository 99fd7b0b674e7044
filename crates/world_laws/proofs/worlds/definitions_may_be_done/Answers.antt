use Rattle.world_laws.proofs.DefinedLemmas.{definition-may}
use Rattle.world_laws.proofs.worlds.definitions_may_be_done.Goals as goal

pub returns : goal.returns
returns z = λ w text from tokens x r action lawful words spelled means comes. definition-may w text from tokens x r action lawful words spelled means comes
