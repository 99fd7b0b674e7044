use Rattle.std.proofs.Common.{bit_and, arith, refl}
use Rattle.heap.proofs.MarkLemmas.{none-changed, one-changed, all-changed}
use Rattle.heap.proofs.tids.meet.Goals as goal

pub loop-place-init : goal.loop-place-init
loop-place-init c = none-changed bit_and c.args.words.now c.args.others.now

pub loop-place-preserved : goal.loop-place-preserved
loop-place-preserved c = one-changed bit_and c.args.words.now c.args.others.now c.loop-place.words c.loop-place.place _ (omega (arith, c.loop-place.invariant.count)) c.loop-place.invariant refl

pub returns : goal.returns
returns c = record { bits = all-changed bit_and c.args.words.now c.args.others.now c.loop-place.words c.loop-place.place (omega (arith, c.loop-place.invariant.count)) c.requires refl c.loop-place.invariant }
