use Rattle.script_laws.proofs.ReachedLemmas.{reached-lawful}
use Rattle.script_laws.proofs.reached.reached_worlds_are_lawful.Goals as goal

pub returns : goal.returns
returns z = reached-lawful
