use Rattle.sql_grammar.proofs.ExprTrees.{one_expr, one_whole, tokens-are}
use Rattle.sql_grammar.specs.Words.{words_of_expr}
use Rattle.sql_grammar.proofs.laws.one_expression.Goals as goal

pub returns-clause-one : goal.returns-clause-one
returns-clause-one c = one_whole

pub returns-clause-ahead : goal.returns-clause-ahead
returns-clause-ahead c = one_expr

pub returns-clause-tokens : goal.returns-clause-tokens
returns-clause-tokens c = λ a. tokens-are (words_of_expr a)
