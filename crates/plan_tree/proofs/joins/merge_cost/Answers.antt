use Rattle.std.proofs.Common.{◌∙◌, length, refl}
use Rattle.path_cost.specs.Estimates.{pairs}
use Rattle.pathkeys.specs.work.Finding.{class_numbers}
use Rattle.plan_tree.specs.Costs.{estimate, merge_operators}
use Rattle.plan_tree.specs.Plans.{set_of}
use Rattle.plan_tree.specs.work.Views.{plan}
use Rattle.plan_tree.proofs.EstimateLemmas.{below-more}
use Rattle.plan_tree.proofs.JoinLemmas.{merge_costs}
use Rattle.sql_query.specs.Queries.{width}
use Rattle.plan_tree.proofs.joins.merge_cost.Goals as goal

pub set_of-requires : goal.set_of-requires
set_of-requires c = record { below = below-more (width c.args.q.now) 16 (plan c.args.outer.now) c.requires.query.few c.requires.outer }

pub set_of-requires-2 : goal.set_of-requires-2
set_of-requires-2 c = record { below = below-more (width c.args.q.now) 16 (plan c.args.inner.now) c.requires.query.few c.requires.inner }

pub merge_operators-ops-requires-clause-outer : goal.merge_operators-ops-requires-clause-outer
merge_operators-ops-requires-clause-outer c = below-more (width c.args.q.now) 16 (plan c.args.outer.now) c.requires.query.few c.requires.outer

pub merge_operators-ops-requires-clause-inner : goal.merge_operators-ops-requires-clause-inner
merge_operators-ops-requires-clause-inner c = below-more (width c.args.q.now) 16 (plan c.args.inner.now) c.requires.query.few c.requires.inner

pub returns-clause-rule : goal.returns-clause-rule
returns-clause-rule c =
    let q = c.args.q.now in
    let o = plan c.args.outer.now in
    let i = plan c.args.inner.now in
    let keys = class_numbers c.args.keys.now in
    merge_costs c.merge.result c.args.outer_cost c.args.inner_cost c.estimate-outer_rows.result c.estimate-inner_rows.result (length c.args.keys.now) c.pairs-equal.result c.merge_operators-ops.result
    (estimate c.args.cat.now q o) (estimate c.args.cat.now q i) (length c.args.keys.now) (pairs c.args.cat.now q.range q.classes (set_of o) (set_of i) keys) (merge_operators q keys o i)
    c.merge.ensures.rule c.estimate-outer_rows.ensures.rows c.estimate-inner_rows.ensures.rows refl
    (c.pairs-equal.ensures.rows ∙ (λ z. pairs c.args.cat.now (c.range_of.ensures z) (c.classes_of.ensures z) (λ n. c.set_of.ensures.members n z) (λ n. c.set_of-2.ensures.members n z) keys))
    c.merge_operators-ops.ensures c.pairs-equal.ensures.estimate.some
