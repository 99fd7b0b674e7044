use Rattle.plan_tree.proofs.BoundLemmas.{lawful-rows}
use Rattle.plan_check.specs.work.Views.{entry}
use Rattle.entry_check.proofs.PartLemmas.{entry-part, entry-reckoned}
use Rattle.entry_check.proofs.parts.part_of.Goals as goal

pub returns-clause-part : goal.returns-clause-part
returns-clause-part c = λ p r. entry-part c.args.cat.now c.args.q.now (entry c.args.e.now) p r c.counted.result (lawful-rows c.args.cat.now c.args.q.now c.lawful.ensures) c.counted.ensures

pub returns-clause-reckoned : goal.returns-clause-reckoned
returns-clause-reckoned c =
    entry-reckoned c.args.cat.now c.args.q.now (entry c.args.e.now) c.requires.right.plan c.requires.right.right c.counted.result (lawful-rows c.args.cat.now c.args.q.now c.lawful.ensures) c.counted.ensures
