use Rattle.std.proofs.Common.{arith, false, subst}
use Rattle.pathkeys.specs.work.Finding.{class_numbers}
use Rattle.plan_check.specs.work.Placing.{place_at}
use Rattle.plan_check.specs.work.Views.{certificate}
use Rattle.join_cover.specs.work.Serving.{IsRowServed}
use Rattle.join_cover.proofs.MergeLemmas.{below-from, there-at}
use Rattle.join_cover.proofs.merges.open_rows.Goals as goal

pub open_row-requires-clause-outer : goal.open_row-requires-clause-outer
open_row-requires-clause-outer c = there-at (certificate c.args.j.now.t.now).entries c.args.j.now.places.now c.loop-i.i _ c.requires.placed (omega (arith, c.loop-i-test.true, c.requires.outer)) c.at-k.ensures

pub loop-i-preserved : goal.loop-i-preserved
loop-i-preserved c =
    let w = c.args.work.now in
    let p = c.args.j.now.places.now in
    below-from (λ n. IsRowServed c.args.j.now.cat.now c.args.j.now.q.now (certificate c.args.j.now.t.now) (class_numbers w.list.now) w.outer.0 w.inner.0 (place_at p n) false c.args.least) c.args.within.0 c.loop-i.i c.loop-i.invariant
    (subst (λ n. IsRowServed c.args.j.now.cat.now c.args.j.now.q.now (certificate c.args.j.now.t.now) (class_numbers w.list.now) w.outer.0 w.inner.0 n false c.args.least) c.at-k.ensures c.in_default.ensures)

pub returns : goal.returns
returns c = λ n le lt. c.loop-i.invariant n le (omega (arith, lt, c.loop-i-test.false))
