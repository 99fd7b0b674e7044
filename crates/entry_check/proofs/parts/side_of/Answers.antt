use Rattle.plan_check.specs.work.Views.{entry}
use Rattle.entry_check.proofs.PartLemmas.{side-plain, side-sorted}
use Rattle.entry_check.proofs.parts.side_of.Goals as goal

pub returns-then-sort-clause-part : goal.returns-then-sort-clause-part
returns-then-sort-clause-part c = λ keys p r.
    side-sorted c.args.cat.now c.args.q.now (entry c.args.e.now) p r keys c.args.sort c.part_of-part.result c.sorted.result c.if-sort.true c.requires.whole (c.part_of-part.ensures.part p r)
    (c.sorted.ensures.sorted c.args.cat.now keys p)

pub returns-else-sort-clause-part : goal.returns-else-sort-clause-part
returns-else-sort-clause-part c = λ keys p r.
    side-plain c.args.cat.now c.args.q.now (entry c.args.e.now) p r keys c.args.sort c.part_of-part.result c.if-sort.false (c.part_of-part.ensures.part p r)
