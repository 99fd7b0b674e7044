use Rattle.std.proofs.Common.{refl}
use Rattle.pathkeys.specs.work.Finding.{class_numbers}
use Rattle.plan_check.specs.work.Views.{certificate}
use Rattle.join_cover.proofs.LeastLemmas.{row-served}
use Rattle.join_cover.proofs.MergeLemmas.{past-within, weaker}
use Rattle.join_cover.proofs.merges.open_row.Goals as goal

pub open_plain-requires-clause-inner : goal.open_plain-requires-clause-inner
open_plain-requires-clause-inner c = past-within _ _ _ _ c.range-within.ensures.past refl

pub returns : goal.returns
returns c =
    let w = c.args.work.now in
    let r = c.range-within in
    weaker c.open_plain.result _ _ _
    (row-served c.args.j.now.cat.now c.args.j.now.q.now (certificate c.args.j.now.t.now) c.requires.right (class_numbers w.list.now) w.outer.0 w.inner.0 c.args.j.now.places.now c.requires.placed r.result c.args.k c.args.least c.args.sort r.ensures.first r.ensures.past c.in_default.ensures) c.open_plain.ensures
