use Rattle.plan_tree.specs.work.Views.{plan}
use Rattle.plan_tree.proofs.CostableLemmas.{built-costable}
use Rattle.plan_space.proofs.SortLemmas.{few-plain}
use Rattle.plan_space.proofs.order.meets_order.Goals as goal

pub begins_with_order-requires-clause-plan : goal.begins_with_order-requires-clause-plan
begins_with_order-requires-clause-plan c = built-costable c.args.cat.now c.args.q.now (plan c.args.p.now) c.requires.built

pub begins_with_order-requires-clause-few : goal.begins_with_order-requires-clause-few
begins_with_order-requires-clause-few c = few-plain c.args.cat.now c.args.q.now c.lawful.ensures (plan c.args.p.now) c.requires.built c.in-None.ensures
