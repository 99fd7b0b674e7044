use Rattle.std.proofs.Common.{map}
use Rattle.plan_tree.specs.work.Views.{path}
use Rattle.scan_paths.proofs.ReachLemmas.{not-reached}
use Rattle.scan_paths.proofs.relation_scans.offer_reached.Goals as goal

pub returns-then-not-within-clause-served : goal.returns-then-not-within-clause-served
returns-then-not-within-clause-served c =
    let s = c.args.s in
    not-reached c.args.cat.now c.args.q.now s.rel s.index s.param (map path c.args.front.now) c.args.others c.within.result c.if-not-within.true c.within.ensures c.requires.reach
