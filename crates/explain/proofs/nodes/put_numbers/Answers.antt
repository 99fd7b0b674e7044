use Rattle.plan_tree.specs.work.Views.{plan}
use Rattle.plan_tree.proofs.PricingLemmas.{costable-reads}
use Rattle.plan_laws.proofs.WellBoundLemmas.{bound-over}
use Rattle.explain.proofs.nodes.put_numbers.Goals as goal

pub cost-pair-requires-clause-query : goal.cost-pair-requires-clause-query
cost-pair-requires-clause-query c = bound-over c.args.cat.now c.args.q.now c.requires.bound

pub estimate-rows-requires-clause-query : goal.estimate-rows-requires-clause-query
estimate-rows-requires-clause-query c = bound-over c.args.cat.now c.args.q.now c.requires.bound

pub estimate-rows-requires-clause-reads : goal.estimate-rows-requires-clause-reads
estimate-rows-requires-clause-reads c = costable-reads c.args.cat.now c.args.q.now (plan c.args.p.now) c.requires.costable
