use Rattle.plan_tree.specs.Costs.{estimate, join_operators}
use Rattle.plan_tree.specs.work.Views.{plan}
use Rattle.plan_tree.proofs.EstimateLemmas.{below-more}
use Rattle.plan_tree.proofs.JoinLemmas.{nest_costs}
use Rattle.sql_query.specs.Queries.{width}
use Rattle.plan_tree.proofs.joins.nest_cost.Goals as goal

pub join_operators-ops-requires-clause-outer : goal.join_operators-ops-requires-clause-outer
join_operators-ops-requires-clause-outer c = below-more (width c.args.q.now) 16 (plan c.args.outer.now) c.requires.query.few c.requires.outer

pub join_operators-ops-requires-clause-inner : goal.join_operators-ops-requires-clause-inner
join_operators-ops-requires-clause-inner c = below-more (width c.args.q.now) 16 (plan c.args.inner.now) c.requires.query.few c.requires.inner

pub returns-clause-rule : goal.returns-clause-rule
returns-clause-rule c =
    let q = c.args.q.now in
    let o = plan c.args.outer.now in
    let i = plan c.args.inner.now in
    nest_costs c.nest.result c.args.outer_cost c.args.inner_cost c.estimate-outer_rows.result c.estimate-inner_rows.result c.join_operators-ops.result
    (estimate c.args.cat.now q o) (estimate c.args.cat.now q i) (join_operators q o i)
    c.nest.ensures.rule c.estimate-outer_rows.ensures.rows c.estimate-inner_rows.ensures.rows c.join_operators-ops.ensures c.estimate-outer_rows.ensures.estimate.some c.estimate-inner_rows.ensures.estimate.some
