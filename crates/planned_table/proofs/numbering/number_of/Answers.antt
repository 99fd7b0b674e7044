use Rattle.plan_tree.specs.work.Views.{plan}
use Rattle.planned_table.specs.work.Numbering.{trees}
use Rattle.planned_table.proofs.NumberLemmas.{numbered}
use Rattle.planned_table.proofs.numbering.number_of.Goals as goal

pub returns : goal.returns
returns c = numbered (trees c.args.listed.now) c.args.first c.place_of.result (plan c.args.tree.now) c.place_of.ensures.before c.place_of.ensures.found
