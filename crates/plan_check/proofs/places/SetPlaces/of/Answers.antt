use Rattle.std.proofs.Common.{arith, get_or, map, refl, ◌∙◌}
use Rattle.std.specs.Prelude.{slice_get}
use Rattle.plan_check.specs.work.Views.{entry}
use Rattle.plan_check.proofs.PlacedLemmas.{placed-all, placed-next}
use Rattle.plan_check.proofs.PlaceLemmas.{read-at}
use Rattle.plan_check.proofs.places.SetPlaces.of.Goals as goal

pub loop-i-init : goal.loop-i-init
loop-i-init c = (refl, λ r e lt is. absurd (omega (arith, lt)))

pub loop-i-preserved : goal.loop-i-preserved
loop-i-preserved c =
    let xs = c.args.entries.now in
    let order = c.args.order.now in
    let there = read-at xs (get_or order c.loop-i.i 0) c.index-entries-order.result (c.requires.ranked.within c.loop-i.i c.loop-i-test.true) c.index-entries-order.is in (
      c.put.ensures.same ∙ c.loop-i.invariant.0,
      placed-next (λ r. slice_get (map entry xs) (get_or order r 0)) c.loop-i.i c.loop-i.places c.put.new.self (entry c.index-entries-order.result) there c.loop-i.invariant.1 c.put.ensures,
    )

pub returns : goal.returns
returns c = placed-all c.args.entries.now c.args.order.now c.loop-i.i c.loop-i.places c.loop-i-test.false c.requires.ranked c.loop-i.invariant.0 c.loop-i.invariant.1
