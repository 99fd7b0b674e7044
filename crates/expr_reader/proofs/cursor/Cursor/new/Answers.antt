use Rattle.expr_reader.proofs.Tokens.{words-digits}
use Rattle.sql_grammar.proofs.StatementWords.{words-inside}
use Rattle.expr_reader.proofs.cursor.Cursor.new.Goals as goal

pub invariant_of-result : goal.invariant_of-result
invariant_of-result c = rw c.items.ensures (c.requires.first, words-inside c.args.text.now c.requires.words.0 c.args.tokens.now c.requires.words.1, words-digits c.args.text.now c.requires.words.0 c.args.tokens.now c.requires.words.1)
