use Rattle.std.proofs.Common.{map, sym}
use Rattle.plan_check.specs.work.Views.{entry}
use Rattle.plan_check.proofs.PlacedLemmas.{there-read}
use Rattle.join_cover.proofs.LeastLemmas.{least-none, least-until}
use Rattle.join_cover.proofs.least.least_in.Goals as goal

pub loop-i-init : goal.loop-i-init
loop-i-init c = least-none (map entry c.args.entries.now) c.args.set.0 c.args.places.now c.args.within.0

pub loop-i-preserved : goal.loop-i-preserved
loop-i-preserved c = c.lesser-least.ensures c.args.places.now c.args.within.0 c.loop-i.i (sym c.at.ensures) c.loop-i.invariant

pub returns : goal.returns
returns c = least-until (map entry c.args.entries.now) c.args.set.0 c.args.places.now c.args.within.0 c.loop-i.i c.args.within.1 c.loop-i.least c.loop-i-test.false c.loop-i.invariant
