use Rattle.std.proofs.Common.{refl}
use Rattle.plan_check.specs.work.Views.{certificate}
use Rattle.join_cover.proofs.MergeLemmas.{nests-of, past-within}
use Rattle.join_cover.proofs.nests.open_nests.Goals as goal

pub open_outer-requires-clause-outer : goal.open_outer-requires-clause-outer
open_outer-requires-clause-outer c = past-within _ _ _ _ c.range-outers.ensures.past refl

pub open_outer-requires-clause-inner : goal.open_outer-requires-clause-inner
open_outer-requires-clause-inner c = past-within _ _ _ _ c.range-inners.ensures.past refl

pub returns : goal.returns
returns c =
    let a = c.range-outers in
    let b = c.range-inners in
    let made = c.nest_work_given-work.ensures in
    nests-of c.args.j.now.cat.now c.args.j.now.q.now (certificate c.args.j.now.t.now) c.args.j.now.places.now c.requires.placed c.nest_work_given-work.result c.args.outer c.args.inner made.outer made.inner a.result b.result a.ensures.first a.ensures.past b.ensures.first b.ensures.past c.open_outer.result c.open_outer.ensures
