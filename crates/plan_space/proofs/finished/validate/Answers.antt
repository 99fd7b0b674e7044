use Rattle.plan_tree.specs.work.Views.{plan}
use Rattle.plan_tree.proofs.PathLemmas.{built-below}
use Rattle.plan_space.proofs.finished.validate.Goals as goal

pub reads_all-requires-clause-reads : goal.reads_all-requires-clause-reads
reads_all-requires-clause-reads c = built-below c.args.cat.now c.args.q.now (plan c.args.p.now) (c.is_built.ensures.0 c.if-is_built.true)
