use Rattle.std.proofs.Common.{subst, take_all}
use Rattle.std.specs.Prelude.{All}
use Rattle.std.proofs.lemmas.List.Elements.{All-more}
use Rattle.plan_check.specs.work.Views.{certificate}
use Rattle.scan_cover.specs.work.Scanning.{IsIndexServed}
use Rattle.scan_cover.proofs.WalkLemmas.{all-indexes}
use Rattle.scan_cover.proofs.relations.open_given.Goals as goal

pub loop-i-preserved : goal.loop-i-preserved
loop-i-preserved c =
    All-more (IsIndexServed c.args.j.now.cat.now c.args.j.now.q.now (certificate c.args.j.now.t.now) c.args.r c.args.p) c.indexes_of-indexes.result.now c.loop-i.i-index _ c.loop-i-test.true c.loop-i.invariant c.in_default.ensures

pub returns : goal.returns
returns c =
    let P = IsIndexServed c.args.j.now.cat.now c.args.j.now.q.now (certificate c.args.j.now.t.now) c.args.r c.args.p in
    let xs = c.indexes_of-indexes.result.now in
    all-indexes c.args.j.now.cat.now c.args.j.now.q.now (certificate c.args.j.now.t.now) c.args.r c.args.p xs c.indexes_of-indexes.ensures (subst (All P) (take_all c.loop-i.i-index xs c.loop-i-test.false) c.loop-i.invariant)
