use Rattle.sql_grammar.proofs.OrderTrees.{one_windowed}
use Rattle.sql_grammar.proofs.PartEnds.{windowed-ends}
use Rattle.sql_grammar.proofs.laws.one_windowed_select.Goals as goal

pub returns-clause-ahead : goal.returns-clause-ahead
returns-clause-ahead c = one_windowed

pub returns-clause-ends : goal.returns-clause-ends
returns-clause-ends c = windowed-ends
