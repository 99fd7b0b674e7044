use Rattle.std.proofs.Common.{arith, subst}
use Rattle.plan_check.specs.work.Views.{certificate}
use Rattle.plan_check.specs.work.Placing.{IsOf, place_at}
use Rattle.join_cover.specs.work.Serving.{IsNestServed}
use Rattle.join_cover.proofs.MergeLemmas.{below-from, there-at}
use Rattle.join_cover.proofs.nests.open_inner.Goals as goal

pub open_at-requires-clause-inner : goal.open_at-requires-clause-inner
open_at-requires-clause-inner c = there-at (certificate c.args.j.now.t.now).entries c.args.j.now.places.now c.loop-i.i _ c.requires.placed (omega (arith, c.loop-i-test.true, c.requires.inner)) c.at-l.ensures

pub loop-i-preserved : goal.loop-i-preserved
loop-i-preserved c =
    let es = (certificate c.args.j.now.t.now).entries in
    let p = c.args.j.now.places.now in
    below-from (λ n. IsOf es c.args.work.now.outer.0 c.args.k → IsOf es c.args.work.now.inner.0 (place_at p n) → IsNestServed c.args.j.now.cat.now c.args.j.now.q.now (certificate c.args.j.now.t.now) c.args.k (place_at p n)) c.args.within.0 c.loop-i.i c.loop-i.invariant
    (subst (λ n. IsOf es c.args.work.now.outer.0 c.args.k → IsOf es c.args.work.now.inner.0 n → IsNestServed c.args.j.now.cat.now c.args.j.now.q.now (certificate c.args.j.now.t.now) c.args.k n) c.at-l.ensures c.in_default.ensures)

pub returns : goal.returns
returns c = λ n le lt. c.loop-i.invariant n le (omega (arith, lt, c.loop-i-test.false))
