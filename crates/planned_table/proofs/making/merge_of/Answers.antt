use Rattle.std.proofs.Common.{take}
use Rattle.plan_tree.specs.work.Views.{plan}
use Rattle.plan_check.specs.Views.{side}
use Rattle.planned_table.specs.work.Numbering.{trees}
use Rattle.planned_table.proofs.MakeLemmas.{merge-plan}
use Rattle.planned_table.proofs.NumberLemmas.{side-unsorted}
use Rattle.planned_table.proofs.making.merge_of.Goals as goal

pub side_of-outer-requires-clause-there : goal.side_of-outer-requires-clause-there
side_of-outer-requires-clause-there c = side-unsorted (take c.args.first (trees c.args.listed.now)) c.args.keys.now (plan c.args.outer.now) c.requires.outer

pub side_of-inner-requires-clause-there : goal.side_of-inner-requires-clause-there
side_of-inner-requires-clause-there c = side-unsorted (take c.args.first (trees c.args.listed.now)) c.args.keys.now (plan c.args.inner.now) c.requires.inner

pub returns : goal.returns
returns c = λ w set param.
    merge-plan (take c.args.first (trees c.args.listed.now)) c.in_ok-made.made c.args.keys.now (side c.side_of-outer.result) (side c.side_of-inner.result) (plan c.args.outer.now) (plan c.args.inner.now)
    c.in_ok-made.ensures.equal c.side_of-outer.ensures c.side_of-inner.ensures c.requires.outer c.requires.inner
