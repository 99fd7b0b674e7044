use Rattle.std.proofs.Common.{◌∙◌, sym}
use Rattle.plan_space.proofs.JoinLemmas.{below-built, costable-built}
use Rattle.plan_space.proofs.finished.+is_built.Goals as goal

pub is_nest-requires-clause-outer : goal.is_nest-requires-clause-outer
is_nest-requires-clause-outer t c =
    below-built c.args.cat.now c.args.q.now c.deref-in-Nest.result.now c.deref-then-is_built-2.result.now c.requires.query.few (c.deref-in-Nest.ensures ∙ sym c.deref-then-is_built-2.ensures) (c.is_built-in-Nest.ensures.0 c.if-not-is_built.false)

pub is_nest-requires-clause-inner : goal.is_nest-requires-clause-inner
is_nest-requires-clause-inner t c =
    below-built c.args.cat.now c.args.q.now c.deref-in-Nest-2.result.now c.deref-then-is_built-2-2.result.now c.requires.query.few (c.deref-in-Nest-2.ensures ∙ sym c.deref-then-is_built-2-2.ensures) (c.is_built-in-Nest-2.ensures.0 c.if-is_built-2.true)

pub is_merge-requires-clause-outer : goal.is_merge-requires-clause-outer
is_merge-requires-clause-outer t c =
    costable-built c.args.cat.now c.args.q.now c.deref-in-Merge.result.now c.deref-then-is_built-3.result.now (c.deref-in-Merge.ensures ∙ sym c.deref-then-is_built-3.ensures) (c.is_built-in-Merge.ensures.0 c.if-not-is_built-2.false)

pub is_merge-requires-clause-inner : goal.is_merge-requires-clause-inner
is_merge-requires-clause-inner t c =
    costable-built c.args.cat.now c.args.q.now c.deref-in-Merge-2.result.now c.deref-then-is_built-3-2.result.now (c.deref-in-Merge-2.ensures ∙ sym c.deref-then-is_built-3-2.ensures) (c.is_built-in-Merge-2.ensures.0 c.if-is_built-3.true)
