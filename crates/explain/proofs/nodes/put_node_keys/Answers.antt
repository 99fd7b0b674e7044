use Rattle.sql_query.specs.Queries.{width}
use Rattle.plan_tree.specs.work.Views.{plan}
use Rattle.plan_tree.proofs.EstimateLemmas.{below-more}
use Rattle.plan_tree.proofs.PricingLemmas.{costable-reads}
use Rattle.plan_laws.proofs.WellBoundLemmas.{bound-over}
use Rattle.explain.proofs.nodes.put_node_keys.Goals as goal

pub set_of-requires : goal.set_of-requires
set_of-requires c = record {
  below = below-more (width c.args.q.now) 16 (plan c.args.p.now) (bound-over c.args.cat.now c.args.q.now c.requires.bound).few (costable-reads c.args.cat.now c.args.q.now (plan c.args.p.now) c.requires.costable);
}
