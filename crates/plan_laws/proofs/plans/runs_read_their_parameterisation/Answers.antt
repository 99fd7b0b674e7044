use Rattle.plan_laws.proofs.ReadingLemmas.{run_alike}
use Rattle.plan_laws.proofs.plans.runs_read_their_parameterisation.Goals as goal

pub returns : goal.returns
returns c = λ w q p o u world bound is same. run_alike w q world bound o u p is same
