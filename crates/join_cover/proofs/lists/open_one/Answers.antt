use Rattle.plan_check.specs.work.Views.{certificate}
use Rattle.join_cover.proofs.ListLemmas.{first-served}
use Rattle.join_cover.proofs.lists.open_one.Goals as goal

pub returns : goal.returns
returns c = first-served c.args.j.now.cat.now c.args.j.now.q.now (certificate c.args.j.now.t.now) c.args.sets.0.0 c.args.sets.1.0 c.args.found.now c.open_seconds.result _ c.args.first c.in_default.ensures c.open_seconds.ensures
