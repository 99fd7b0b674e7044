use Rattle.plan_laws.proofs.FewLemmas.{atoms_few, clauses_few}
use Rattle.plan_laws.proofs.queries.clauses_are_few.Goals as goal

pub returns : goal.returns
returns c = record { count = clauses_few; atoms = atoms_few }
