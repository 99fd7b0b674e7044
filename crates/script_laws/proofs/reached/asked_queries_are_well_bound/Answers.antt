use Rattle.script_laws.proofs.ReachedLemmas.{bound}
use Rattle.script_laws.proofs.reached.asked_queries_are_well_bound.Goals as goal

pub returns : goal.returns
returns z = λ text before behind s first. bound text before s behind first
