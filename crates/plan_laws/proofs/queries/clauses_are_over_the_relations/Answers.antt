use Rattle.plan_laws.proofs.OverLemmas.{clauses_over}
use Rattle.plan_laws.proofs.queries.clauses_are_over_the_relations.Goals as goal

pub returns : goal.returns
returns c = clauses_over
