use Rattle.sql_query.specs.Worlds.{world}
use Rattle.statements.proofs.CheckingLemmas.{check-telling}
use Rattle.statements.proofs.checking.verdict_of.Goals as goal

pub returns-clause-telling : goal.returns-clause-telling
returns-clause-telling c = λ stored.
    check-telling (world c.args.catalog.now stored) c.args.text.now c.args.tokens.now c.in_ok-query.field-0.query _ c.in_ok-line.line.items c.in_ok-query.field-0.next
    (c.in_ok-query.ensures.read stored) c.in_ok-line.ensures.checked
