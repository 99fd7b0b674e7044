use Rattle.sql_grammar.proofs.ExprTrees.{tokens-are}
use Rattle.sql_grammar.proofs.StatementTrees.{one_tree}
use Rattle.sql_grammar.specs.Words.{words_of}
use Rattle.sql_grammar.proofs.laws.one_statement.Goals as goal

pub returns-clause-one : goal.returns-clause-one
returns-clause-one c = one_tree

pub returns-clause-tokens : goal.returns-clause-tokens
returns-clause-tokens c = λ x. tokens-are (words_of x)
