use Rattle.plan_laws.proofs.MeaningLemmas.{base_means}
use Rattle.plan_laws.proofs.queries.base_clauses_mean_the_conditions.Goals as goal

pub returns : goal.returns
returns c = base_means
