use Rattle.script_laws.proofs.RightLemmas.{advice-is}
use Rattle.script_laws.proofs.right.a_printed_advice_is_the_least.Goals as goal

pub returns : goal.returns
returns z = λ text before behind s most candidates queries first is. advice-is text before behind s most candidates queries first is
