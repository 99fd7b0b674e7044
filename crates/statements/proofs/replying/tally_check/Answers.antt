use Rattle.sql_query.specs.Worlds.{world}
use Rattle.statements.proofs.TellingLemmas.{tallied-telling}
use Rattle.statements.proofs.replying.tally_check.Goals as goal

pub returns-clause-tallied : goal.returns-clause-tallied
returns-clause-tallied c = λ stored.
    tallied-telling (world c.args.catalog.now stored) c.args.text.now c.args.tokens.now c.in_ok-verdict.verdict.next c.in_ok-verdict.verdict.line.items (c.in_ok-verdict.ensures.telling stored)
