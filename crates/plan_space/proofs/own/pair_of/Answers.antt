use Rattle.plan_tree.specs.work.Views.{plan}
use Rattle.plan_tree.proofs.PricingLemmas.{costable-reads}
use Rattle.plan_space.proofs.own.pair_of.Goals as goal

pub estimate-requires-clause-reads : goal.estimate-requires-clause-reads
estimate-requires-clause-reads c = costable-reads c.args.cat.now c.args.q.now (plan c.args.p.now) c.requires.costable
