use Rattle.plan_check.specs.work.Views.{certificate}
use Rattle.join_cover.proofs.MergeLemmas.{list-by, merges-by}
use Rattle.join_cover.proofs.lists.open_list.Goals as goal

pub open_work-requires-clause-list : goal.open_work-requires-clause-list
open_work-requires-clause-list c =
    let made = c.merge_work-work.ensures in
    list-by c.args.j.now.cat.now c.args.j.now.q.now c.merge_work-work.result c.args.list.now c.args.sets.0 c.args.sets.1 made.list made.outer made.inner c.requires.list

pub returns : goal.returns
returns c =
    let made = c.merge_work-work.ensures in
    merges-by c.args.j.now.cat.now c.args.j.now.q.now c.merge_work-work.result c.args.list.now c.args.sets.0 c.args.sets.1 made.list made.outer made.inner (certificate c.args.j.now.t.now) c.open_work.result c.open_work.ensures
