use Rattle.sql_grammar.proofs.IndexTrees.{one_cand}
use Rattle.sql_grammar.proofs.PartEnds.{cand-ends}
use Rattle.sql_grammar.proofs.laws.one_candidate.Goals as goal

pub returns-clause-ahead : goal.returns-clause-ahead
returns-clause-ahead c = one_cand

pub returns-clause-ends : goal.returns-clause-ends
returns-clause-ends c = cand-ends
