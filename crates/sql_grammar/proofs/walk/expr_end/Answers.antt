use Rattle.std.proofs.Common.{refl, sym, subst}
use Rattle.sql_grammar.specs.work.Reading.{AreTokens}
use Rattle.sql_grammar.proofs.StatementWords.{words-are-tokens}
use Rattle.sql_grammar.specs.work.Faults.{IsExpr, IsPartEnd}
use Rattle.sql_grammar.proofs.Reach.{exprs, part}
use Rattle.sql_grammar.proofs.walk.expr_end.Goals as goal

pub walk-requires-clause-tokens : goal.walk-requires-clause-tokens
walk-requires-clause-tokens c =
    subst (AreTokens c.args.text.now) (sym c.items.ensures)
    (words-are-tokens c.args.text.now c.requires.words.0 c.args.tokens.now c.requires.words.1 c.requires.short)

pub returns : goal.returns
returns c =
    subst (λ ts. IsPartEnd IsExpr c.args.text.now ts c.args.first c.walk.result) c.items.ensures
    (part _ IsExpr exprs _ _ _ c.walk.result refl c.walk.ensures)
