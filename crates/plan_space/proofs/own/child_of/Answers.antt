use Rattle.std.proofs.Common.{◌∙◌, ap, sym}
use Rattle.plan_tree.specs.Plans.{merge, nest, sort}
use Rattle.plan_tree.specs.work.Views.{plan}
use Rattle.plan_tree.specs.declared.plan.Plan.{Plan as Planned}
use Rattle.plan_space.specs.Numbered.{line_count, nodes}
use Rattle.plan_space.proofs.PartLemmas.{inner-of-merge, inner-of-nest, of-sort, outer-of-merge, outer-of-nest}
use Rattle.plan_space.proofs.own.child_of.Goals as goal

pub returns-in-Sort-clause-part : goal.returns-in-Sort-clause-part
returns-in-Sort-clause-part c = λ cat q.
    of-sort cat q (plan c.args.p.now) (plan c.deref.result.now) c.in-Sort.keys c.args.at c.args.place
    (ap plan c.in-Sort.is ∙ ap (λ (x : Planned). sort c.in-Sort.keys (plan x)) (sym c.deref.ensures)) c.requires.below c.requires.within

pub returns-then-place-before-clause-part : goal.returns-then-place-before-clause-part
returns-then-place-before-clause-part c = λ cat q.
    outer-of-nest cat q (plan c.args.p.now) (plan c.deref-then-place-before.result.now) (plan c.in-Nest.inner.value) c.args.at c.args.place c.count_nodes-before.result
    (ap plan c.in-Nest.is ∙ ap (λ (x : Planned). nest (plan x) (plan c.in-Nest.inner.value)) (sym c.deref-then-place-before.ensures))
    (c.count_nodes-before.ensures.count ∙ ap (λ (x : Planned). nodes (plan x)) (c.deref-in-Nest.ensures ∙ sym c.deref-then-place-before.ensures))
    c.requires.below c.if-place-before.true c.requires.within

pub returns-else-place-before-clause-part : goal.returns-else-place-before-clause-part
returns-else-place-before-clause-part c = λ cat q.
    inner-of-nest cat q (plan c.args.p.now) (plan c.in-Nest.outer.value) (plan c.deref-else-place-before.result.now) c.args.at c.args.place c.count_nodes-before.result c.count_lines.result
    (ap plan c.in-Nest.is ∙ ap (λ (x : Planned). nest (plan c.in-Nest.outer.value) (plan x)) (sym c.deref-else-place-before.ensures))
    (c.count_nodes-before.ensures.count ∙ ap (λ (x : Planned). nodes (plan x)) c.deref-in-Nest.ensures)
    (c.count_lines.ensures ∙ ap (λ (x : Planned). line_count (plan x)) c.deref-else-place-before-2.ensures)
    c.requires.below c.if-place-before.false c.requires.within

pub returns-then-place-before-2-clause-part : goal.returns-then-place-before-2-clause-part
returns-then-place-before-2-clause-part c = λ cat q.
    outer-of-merge cat q (plan c.args.p.now) (plan c.deref-then-place-before-2.result.now) (plan c.in-Merge.inner.value) c.in-Merge.keys c.args.at c.args.place c.count_nodes-before-in-Merge.result
    (ap plan c.in-Merge.is ∙ ap (λ (x : Planned). merge c.in-Merge.keys (plan x) (plan c.in-Merge.inner.value)) (sym c.deref-then-place-before-2.ensures))
    (c.count_nodes-before-in-Merge.ensures.count ∙ ap (λ (x : Planned). nodes (plan x)) (c.deref-in-Merge.ensures ∙ sym c.deref-then-place-before-2.ensures))
    c.requires.below c.if-place-before-2.true c.requires.within

pub returns-else-place-before-2-clause-part : goal.returns-else-place-before-2-clause-part
returns-else-place-before-2-clause-part c = λ cat q.
    inner-of-merge cat q (plan c.args.p.now) (plan c.in-Merge.outer.value) (plan c.deref-else-place-before-2-2.result.now) c.in-Merge.keys c.args.at c.args.place c.count_nodes-before-in-Merge.result c.count_lines-else-place-before-2.result
    (ap plan c.in-Merge.is ∙ ap (λ (x : Planned). merge c.in-Merge.keys (plan c.in-Merge.outer.value) (plan x)) (sym c.deref-else-place-before-2-2.ensures))
    (c.count_nodes-before-in-Merge.ensures.count ∙ ap (λ (x : Planned). nodes (plan x)) c.deref-in-Merge.ensures)
    (c.count_lines-else-place-before-2.ensures ∙ ap (λ (x : Planned). line_count (plan x)) c.deref-else-place-before-2-3.ensures)
    c.requires.below c.if-place-before-2.false c.requires.within
