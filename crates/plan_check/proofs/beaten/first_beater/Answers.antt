use Rattle.plan_check.specs.work.Views.{entry}
use Rattle.plan_check.proofs.PlaceLemmas.{read-at}
use Rattle.plan_check.proofs.PlacedLemmas.{none-beats}
use Rattle.plan_check.proofs.beaten.first_beater.Goals as goal

pub returns-then-not-has_beater-clause-none : goal.returns-then-not-has_beater-clause-none
returns-then-not-has_beater-clause-none c =
    let xs = c.args.entries.now in
    let x = c.index-entries-n.result in
    none-beats c.args.q.now.window xs c.args.places.now c.args.n c.range-within.result.0 c.range-within.result.1 (entry x) c.requires.placed (read-at xs c.args.n x c.requires.there c.index-entries-n.is) c.range-within.ensures.first c.range-within.ensures.past (c.has_beater.ensures c.if-not-has_beater.true)
