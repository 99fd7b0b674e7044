use Rattle.std.proofs.Common.{arith, sym}
use Rattle.sql_grammar.proofs.LimitLaws.{brief-word, long-word}
use Rattle.sql_grammar.proofs.limits.limit_passed.Goals as goal

pub returns-in-Word : goal.returns-in-Word
returns-in-Word c = sym (long-word c.args.token.kind _ c.args.token c.in-Word.is c.if-bytes-gt-MOST_NAME_BYTES.true)

pub returns-in_default : goal.returns-in_default
returns-in_default c = let few = c.if-bytes-gt-MOST_NAME_BYTES.false in sym (brief-word c.args.token.kind _ c.args.token c.in-Word.is (omega (arith, few)))
