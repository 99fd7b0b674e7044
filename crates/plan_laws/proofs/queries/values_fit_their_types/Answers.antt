use Rattle.plan_laws.proofs.FitsLemmas.{values_fit}
use Rattle.plan_laws.proofs.queries.values_fit_their_types.Goals as goal

pub returns : goal.returns
returns c = values_fit
