use Rattle.pg_base.specs.Sets.{has}
use Rattle.join_cover.proofs.ListLemmas.{list-three}
use Rattle.join_cover.proofs.lists.open_three.Goals as goal

pub open_list-requires-clause-list : goal.open_list-requires-clause-list
open_list-requires-clause-list c = list-three c.args.j.now.cat.now c.args.j.now.q.now (has c.args.sets.0.0) (has c.args.sets.1.0) c.args.list.0.0 c.args.list.1.0 c.args.list.2.0 c.requires.two c.requires.third c.if-list.false c.if-list-2.false
