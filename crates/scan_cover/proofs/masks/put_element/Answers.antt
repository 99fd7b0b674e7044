use Rattle.std.proofs.Common.{ap}
use Rattle.plan_tree.specs.work.Views.{element}
use Rattle.scan_cover.proofs.KeptLemmas.{put-index}
use Rattle.scan_cover.proofs.masks.put_element.Goals as goal

pub returns-in-Index : goal.returns-in-Index
returns-in-Index c =
    let kept = c.requires.kept in
    (kept.0, kept.1, put-index c.args.cat.now c.args.q.now c.args.at.rel c.args.at.param c.args.k.now _ kept.0 c.args.into.now (ap element c.in-Index.is) kept.1)
