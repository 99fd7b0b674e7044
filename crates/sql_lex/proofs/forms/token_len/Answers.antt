use Rattle.std.proofs.Common.{sym, arith}
use Rattle.std.proofs.lemmas.Bool.{eqb-false}
use Rattle.sql_lex.proofs.FormLaws.{word_cut}
use Rattle.sql_lex.proofs.forms.token_len.Goals as goal

pub returns-then-begins_word : goal.returns-then-begins_word
returns-then-begins_word c = rw c.word_len.ensures (word_cut c.args.bytes.now (omega (arith, eqb-false _ _ (sym c.if-is_empty.ensures))) (sym c.if-begins_word.ensures))
