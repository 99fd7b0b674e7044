use Rattle.std.proofs.Common.{slice_range}
use Rattle.sql_query.specs.Worlds.{world}
use Rattle.statements.proofs.TellingLemmas.{refused-by}
use Rattle.statements.proofs.UsingLemmas.{tallied-plan}
use Rattle.statements.proofs.replying.tally_plan.Goals as goal

pub returns-clause-tallied : goal.returns-clause-tallied
returns-clause-tallied g c =
    let stored = c.args.store.now.stored in
    let w = world c.args.catalog.now stored in
    let text = c.args.text.now in
    let order = c.in_ok-order.order in
    let is = c.in_ok-order.ensures.ordered stored in
    let block = slice_range text order.start order.end in
    let (r, replied) = c.told_blocks_have_replies.ensures w order.query block order.told c.requires.store.world is.bound is.whole is.told in
    tallied-plan w text c.args.tokens.now order.query block order.next is.read r replied
