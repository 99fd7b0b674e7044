use Rattle.std.proofs.Common.{subst, sym, drop}
use Rattle.sql_grammar.specs.work.Reading.{AreTokens}
use Rattle.sql_grammar.proofs.StatementWords.{words-are-tokens}
use Rattle.sql_grammar.specs.Faults.{IsStatement, IsFirstFault}
use Rattle.sql_grammar.specs.work.Faults.{IsWhole}
use Rattle.sql_grammar.proofs.Reach.{statements, first-fault, whole}
use Rattle.sql_grammar.proofs.walk.statement_fault.Goals as goal

pub walk-requires-clause-tokens : goal.walk-requires-clause-tokens
walk-requires-clause-tokens c =
    subst (AreTokens c.args.text.now) (sym c.items.ensures)
    (words-are-tokens c.args.text.now c.requires.words.0 c.args.tokens.now c.requires.words.1 c.requires.short)

pub returns-in-Ok : goal.returns-in-Ok
returns-in-Ok c = subst (λ ts. IsWhole c.args.text.now (drop c.args.first ts)) c.items.ensures (whole _ _ _ _ c.in-Ok.ensures)

pub returns-in-Err : goal.returns-in-Err
returns-in-Err c =
    subst (λ ts. IsFirstFault IsStatement c.args.text.now (drop c.args.first ts) c.in-Err.fault) c.items.ensures
    (first-fault _ IsStatement statements _ _ _ _ c.in-Err.ensures)
