use Rattle.plan_check.specs.work.Views.{certificate}
use Rattle.join_cover.proofs.CoverLemmas.{none-meeting, pair-served}
use Rattle.join_cover.proofs.joins.open_pair.Goals as goal

pub returns-then-meets : goal.returns-then-meets
returns-then-meets c = none-meeting c.args.j.now.cat.now c.args.j.now.q.now (certificate c.args.j.now.t.now) c.requires.right c.args.outer.0 c.args.inner.0 (c.meets.ensures.0 c.if-meets.true)

pub returns : goal.returns
returns c = pair-served c.args.j.now.cat.now c.args.j.now.q.now (certificate c.args.j.now.t.now) c.requires.right c.args.outer.0 c.args.inner.0 c.in_default.ensures c.open_merges.result c.open_merges.ensures
