use Rattle.world_laws.proofs.AfterLemmas.{kept-lawful}
use Rattle.world_laws.proofs.worlds.actions_keep_worlds_lawful.Goals as goal

pub returns : goal.returns
returns z = λ w action h may. kept-lawful w h action may
