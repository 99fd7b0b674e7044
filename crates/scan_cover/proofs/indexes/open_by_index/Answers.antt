use Rattle.plan_check.specs.work.Views.{certificate}
use Rattle.scan_cover.proofs.WalkLemmas.{four-ways}
use Rattle.scan_cover.proofs.indexes.open_by_index.Goals as goal

pub returns : goal.returns
returns c = four-ways c.args.j.now.cat.now c.args.j.now.q.now (certificate c.args.j.now.t.now) c.args.r c.args.p c.args.i c.in_default.ensures c.in_default-open_way.ensures c.in_default-open_way-2.ensures c.open_way-4.result _ c.open_way-4.ensures
