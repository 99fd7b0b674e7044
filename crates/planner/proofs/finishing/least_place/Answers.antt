use Rattle.planner.specs.work.Finishing.{IsWhole}
use Rattle.planner.proofs.PlaceLemmas.{at-place, none-so-far, one-so-far, place-least, place-none}
use Rattle.planner.proofs.finishing.least_place.Goals as goal

pub finished_price-price-requires-clause-whole : goal.finished_price-price-requires-clause-whole
finished_price-price-requires-clause-whole c = at-place (IsWhole c.args.cat.now c.args.q.now) c.args.paths.now c.loop-at.at c.index-paths-at.result c.loop-at-test.true c.index-paths-at.is c.requires.whole

pub loop-at-init : goal.loop-at-init
loop-at-init c = none-so-far c.args.cat.now c.args.q.now c.args.paths.now

pub loop-at-preserved : goal.loop-at-preserved
loop-at-preserved c =
    let found = c.finished_price-price.ensures in
    let with' = c.least_with-best.ensures in
    one-so-far c.args.cat.now c.args.q.now c.args.paths.now c.loop-at.best c.least_with-best.result c.finished_price-price.result c.loop-at.at c.loop-at.invariant c.index-paths-at.result c.loop-at-test.true c.index-paths-at.is
    found.priced found.none with'.first with'.this with'.from

pub returns-clause-within : goal.returns-clause-within
returns-clause-within c = c.loop-at.invariant.within

pub returns-clause-priced : goal.returns-clause-priced
returns-clause-priced c = c.loop-at.invariant.priced

pub returns-clause-least : goal.returns-clause-least
returns-clause-least c = place-least c.args.cat.now c.args.q.now c.args.paths.now c.loop-at.best c.loop-at.at c.loop-at.invariant c.loop-at-test.false

pub returns-clause-none : goal.returns-clause-none
returns-clause-none c = place-none c.args.cat.now c.args.q.now c.args.paths.now c.loop-at.best c.loop-at.at c.loop-at.invariant c.loop-at-test.false
