use Rattle.plan_laws.proofs.MeaningLemmas.{clauses_mean}
use Rattle.plan_laws.proofs.queries.clauses_mean_the_conditions.Goals as goal

pub returns : goal.returns
returns c = clauses_mean
