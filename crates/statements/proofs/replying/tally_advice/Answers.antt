use Rattle.std.proofs.Common.{None, ℕ, subst, sym}
use Rattle.sql_lex.specs.Ends.{end_of}
use Rattle.sql_query.specs.Worlds.{world}
use Rattle.statements.specs.work.Steps.{IsTalliedOver}
use Rattle.statements.proofs.TellingLemmas.{refused-by, tallied-telling}
use Rattle.statements.proofs.replying.tally_advice.Goals as goal

pub returns-clause-tallied : goal.returns-clause-tallied
returns-clause-tallied c = λ stored.
    let w = world c.args.catalog.now stored in
    let text = c.args.text.now in
    let tokens = c.args.tokens.now in
    subst (λ (n : ℕ). IsTalliedOver w text tokens n None) (sym c.end.ensures) (tallied-telling w text tokens (end_of tokens) c.in_ok-_lines._lines.items (c.in_ok-_lines.ensures.advised stored))

pub returns-in_err-_lines-clause-refused : goal.returns-in_err-_lines-clause-refused
returns-in_err-_lines-clause-refused c = λ stored.
    refused-by (world c.args.catalog.now stored) c.args.text.now c.args.tokens.now c.from_residual.result c.in_err-_lines.field-0.0 (c.in_err-_lines.ensures.refused stored) c.from_residual.ensures.1
