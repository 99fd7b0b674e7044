use Rattle.std.proofs.Common.{arith, false, subst}
use Rattle.pathkeys.specs.work.Finding.{class_numbers}
use Rattle.plan_check.specs.work.Views.{certificate}
use Rattle.plan_check.specs.work.Placing.{IsOf, place_at}
use Rattle.join_cover.specs.work.Serving.{IsMergeServed}
use Rattle.join_cover.proofs.MergeLemmas.{below-from, there-at}
use Rattle.join_cover.proofs.merges.open_plain.Goals as goal

pub returns-then-not-may_lead : goal.returns-then-not-may_lead
returns-then-not-may_lead c = λ n le lt is is'. c.may_lead.ensures c.if-not-may_lead.true is (place_at c.args.j.now.places.now n)

pub open_sides-requires-clause-inner : goal.open_sides-requires-clause-inner
open_sides-requires-clause-inner c = there-at (certificate c.args.j.now.t.now).entries c.args.j.now.places.now c.loop-i.i _ c.requires.placed (omega (arith, c.loop-i-test.true, c.requires.inner)) c.at-l.ensures

pub loop-i-preserved : goal.loop-i-preserved
loop-i-preserved c =
    let es = (certificate c.args.j.now.t.now).entries in
    let p = c.args.j.now.places.now in
    below-from (λ n. IsOf es c.args.work.now.outer.0 c.args.at.0 → IsOf es c.args.work.now.inner.0 (place_at p n) → IsMergeServed c.args.j.now.cat.now c.args.j.now.q.now (certificate c.args.j.now.t.now) (class_numbers c.args.work.now.list.now) c.args.at.1 false c.args.at.0 (place_at p n)) c.args.within.0 c.loop-i.i c.loop-i.invariant
    (subst (λ n. IsOf es c.args.work.now.outer.0 c.args.at.0 → IsOf es c.args.work.now.inner.0 n → IsMergeServed c.args.j.now.cat.now c.args.j.now.q.now (certificate c.args.j.now.t.now) (class_numbers c.args.work.now.list.now) c.args.at.1 false c.args.at.0 n) c.at-l.ensures c.in_default.ensures)

pub returns : goal.returns
returns c = λ n le lt. c.loop-i.invariant n le (omega (arith, lt, c.loop-i-test.false))
