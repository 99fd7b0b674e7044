use Rattle.pg_base.specs.Sets.{has}
use Rattle.plan_check.specs.work.Views.{certificate}
use Rattle.join_cover.proofs.CoverLemmas.{merge-named}
use Rattle.join_cover.proofs.ListLemmas.{few-classes}
use Rattle.join_cover.proofs.merges.open_sides.Goals as goal

pub merge_node-requires-clause-few : goal.merge_node-requires-clause-few
merge_node-requires-clause-few c = few-classes c.args.j.now.cat.now c.args.j.now.q.now (has c.args.work.now.outer.0) (has c.args.work.now.inner.0) c.args.work.now.list.now c.requires.list

pub returns-in-Some : goal.returns-in-Some
returns-in-Some c =
    let w = c.args.work.now in
    let found = c.in-Some.ensures in (
      merge-named (certificate c.args.j.now.t.now) w.list.now c.args.at w.outer.0 w.inner.0 c.merge_node.result c.merge_node.ensures.is found.0 found.1,
      found.2 c.merge_node.result (c.merge_node.ensures.stands c.args.j.now.cat.now c.args.j.now.q.now (certificate c.args.j.now.t.now)),
    )
