use Rattle.index_match.proofs.PartLemmas as parts
use Rattle.index_match.proofs.laws.clauses_by_number.Goals as goal

pub returns : goal.returns
returns c = λ t test. parts.clauses_by_number test 0 t.clauses
