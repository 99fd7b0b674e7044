use Rattle.pg_base.specs.Sets.{has}
use Rattle.plan_check.specs.work.Views.{certificate}
use Rattle.join_cover.proofs.ListLemmas.{list-two, second-served}
use Rattle.join_cover.proofs.lists.open_two.Goals as goal

pub open_list-requires-clause-list : goal.open_list-requires-clause-list
open_list-requires-clause-list c = list-two c.args.j.now.cat.now c.args.j.now.q.now (has c.args.sets.0.0) (has c.args.sets.1.0) c.args.two.0.0 c.args.two.1.0 c.requires.first c.requires.second c.if-two.false

pub open_thirds-requires-clause-two : goal.open_thirds-requires-clause-two
open_thirds-requires-clause-two c = list-two c.args.j.now.cat.now c.args.j.now.q.now (has c.args.sets.0.0) (has c.args.sets.1.0) c.args.two.0.0 c.args.two.1.0 c.requires.first c.requires.second c.if-two.false

pub returns : goal.returns
returns c = second-served c.args.j.now.cat.now c.args.j.now.q.now (certificate c.args.j.now.t.now) c.args.sets.0.0 c.args.sets.1.0 c.args.found.now c.open_thirds.result _ c.args.two.0 c.args.two.1 c.in_default.ensures c.open_thirds.ensures
