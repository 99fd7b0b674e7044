use Rattle.std.proofs.Common.{◌∙◌, ap, sym, subst}
use Rattle.cost_rules.specs.Costs.{sort_cost}
use Rattle.cost_rules.specs.work.Costs.{capped_pair}
use Rattle.cost_rules.proofs.CapLemmas.{sort-capped}
use Rattle.path_cost.specs.Estimates.{set_rows}
use Rattle.sql_query.specs.Queries.{width}
use Rattle.plan_tree.specs.Costs.{cost}
use Rattle.plan_tree.specs.Plans.{set_of}
use Rattle.plan_tree.specs.work.Reads.{ReadsBelow}
use Rattle.plan_tree.specs.declared.plan.Plan.{Plan as Planned}
use Rattle.plan_tree.specs.work.Views.{plan}
use Rattle.plan_tree.proofs.EstimateLemmas.{below-more}
use Rattle.plan_tree.proofs.PricingLemmas.{costable-reads}
use Rattle.plan_tree.proofs.pricing.+cost.Goals as goal

pub set_of-requires : goal.set_of-requires
set_of-requires t c =
    let has = rw c.in-Sort.is at c.requires.plan in
    let reads = costable-reads c.args.cat.now c.args.q.now (plan c.in-Sort.input.value) has in
    record { below = subst (λ (x : Planned). ReadsBelow 16 (plan x)) (sym c.deref.ensures) (below-more (width c.args.q.now) 16 (plan c.in-Sort.input.value) c.requires.query.few reads) }

pub nest_cost-requires-clause-outer : goal.nest_cost-requires-clause-outer
nest_cost-requires-clause-outer t c =
    let has = rw c.in-Nest.is at c.requires.plan in
    subst (λ (x : Planned). ReadsBelow (width c.args.q.now) (plan x)) (sym c.deref-in-Nest-3.ensures) (costable-reads c.args.cat.now c.args.q.now (plan c.in-Nest.outer.value) has.0)

pub nest_cost-requires-clause-inner : goal.nest_cost-requires-clause-inner
nest_cost-requires-clause-inner t c =
    let has = rw c.in-Nest.is at c.requires.plan in
    subst (λ (x : Planned). ReadsBelow (width c.args.q.now) (plan x)) (sym c.deref-in-Nest-4.ensures) (costable-reads c.args.cat.now c.args.q.now (plan c.in-Nest.inner.value) has.1)

pub merge_cost-requires-clause-outer : goal.merge_cost-requires-clause-outer
merge_cost-requires-clause-outer t c =
    let has = rw c.in-Merge.is at c.requires.plan in
    subst (λ (x : Planned). ReadsBelow (width c.args.q.now) (plan x)) (sym c.deref-in-Merge-3.ensures) (costable-reads c.args.cat.now c.args.q.now (plan c.in-Merge.outer.value) has.2)

pub merge_cost-requires-clause-inner : goal.merge_cost-requires-clause-inner
merge_cost-requires-clause-inner t c =
    let has = rw c.in-Merge.is at c.requires.plan in
    subst (λ (x : Planned). ReadsBelow (width c.args.q.now) (plan x)) (sym c.deref-in-Merge-4.ensures) (costable-reads c.args.cat.now c.args.q.now (plan c.in-Merge.inner.value) has.3)

pub returns-in-Index-clause-rule : goal.returns-in-Index-clause-rule
returns-in-Index-clause-rule t c = c.index_scan_cost.ensures.rule ∙ ap (λ x. capped_pair (cost c.args.cat.now c.args.q.now (plan x))) (sym c.in-Index.is)

pub returns-in-IndexOnly-clause-rule : goal.returns-in-IndexOnly-clause-rule
returns-in-IndexOnly-clause-rule t c = c.index_scan_cost-in-IndexOnly.ensures.rule ∙ ap (λ x. capped_pair (cost c.args.cat.now c.args.q.now (plan x))) (sym c.in-IndexOnly.is)

pub returns-in-Sort-clause-rule : goal.returns-in-Sort-clause-rule
returns-in-Sort-clause-rule t c =
    let contents = c.args.cat.now in
    let q = c.args.q.now in
    let input = plan c.in-Sort.input.value in
    let rows = c.rows_of_set-rows.ensures.rows
    ∙ (λ z. set_rows contents q.range q.classes (λ k. c.set_of.ensures.members k z))
    ∙ ap (λ (x : Planned). set_rows contents q.range q.classes (set_of (plan x))) c.deref.ensures in
    c.sort.ensures.rule
    ∙ ap (λ a. capped_pair (sort_cost a c.rows_of_set-rows.result)) (c.cost.ensures.rule ∙ ap (λ (x : Planned). capped_pair (cost contents q (plan x))) c.deref-in-Sort.ensures)
    ∙ sort-capped (cost contents q input) c.rows_of_set-rows.result
    ∙ ap (λ n. capped_pair (sort_cost (cost contents q input) n)) rows
    ∙ ap (λ (x : Planned). capped_pair (cost contents q (plan x))) (sym c.in-Sort.is)
