use Rattle.std.proofs.Common.{arith}
use Rattle.plan_check.specs.work.Views.{certificate}
use Rattle.pg_base.proofs.NumberLemmas.{each-below as below-next}
use Rattle.scan_cover.specs.work.Trees.{IsMarkServed}
use Rattle.scan_cover.proofs.ServedLemmas.{bitmaps-served}
use Rattle.scan_cover.proofs.masks.open_marks.Goals as goal

pub returns-in-Some : goal.returns-in-Some
returns-in-Some c =
    let made = c.node_of.ensures.stands in
    (c.node_of.ensures.kind, c.in-Some.ensures.some made.0 c.node_of.result made.1 (made.2 (certificate c.args.j.now.t.now)))

pub loop-mask-preserved : goal.loop-mask-preserved
loop-mask-preserved c = below-next (IsMarkServed c.args.j.now.cat.now c.args.j.now.q.now c.args.at.rel c.args.at.param (certificate c.args.j.now.t.now) c.args.kept.now) c.loop-mask.mask c.loop-mask.invariant c.in_default.ensures.none

pub returns : goal.returns
returns c =
    let end = c.sets_of-mask-end.ensures in
    bitmaps-served c.args.j.now.cat.now c.args.j.now.q.now c.args.at.rel c.args.at.param (certificate c.args.j.now.t.now) c.args.kept.now c.loop-mask.mask c.requires.first c.requires.kept c.requires.few (omega (arith, end, c.loop-mask-test.false)) c.loop-mask.invariant
