use Rattle.sql_grammar.proofs.StatementWords.{words-are-tokens}
use Rattle.sql_grammar.proofs.laws.words_are_tokens.Goals as goal

pub returns : goal.returns
returns c = words-are-tokens
