use Rattle.cost_rules.proofs.PowerLemmas.{log-least}
use Rattle.cost_rules.proofs.laws.least_powers.Goals as goal

pub returns : goal.returns
returns c = log-least
