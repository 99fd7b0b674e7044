use Rattle.std.proofs.Common.{refl}
use Rattle.plan_tree.specs.work.Views.{plan}
use Rattle.plan_space.proofs.JoinLemmas.{costable-built}
use Rattle.plan_space.proofs.OutsideLemmas.{merge-both, merge-no-inner, merge-no-outer}
use Rattle.plan_space.proofs.outside.is_built_merge.Goals as goal

pub returns-then-not-has_one_sort : goal.returns-then-not-has_one_sort
returns-then-not-has_one_sort c = merge-no-outer c.args.cat.now c.args.q.now (plan c.args.outer.now) (plan c.args.inner.now) c.args.keys.now c.has_one_sort.result c.if-not-has_one_sort.true c.has_one_sort.ensures

pub returns-then-not-has_one_sort-2 : goal.returns-then-not-has_one_sort-2
returns-then-not-has_one_sort-2 c = merge-no-inner c.args.cat.now c.args.q.now (plan c.args.outer.now) (plan c.args.inner.now) c.args.keys.now c.has_one_sort-2.result c.if-not-has_one_sort-2.true c.has_one_sort-2.ensures

pub is_merge-requires-clause-outer : goal.is_merge-requires-clause-outer
is_merge-requires-clause-outer c = costable-built c.args.cat.now c.args.q.now c.args.outer.now c.args.outer.now refl (c.has_one_sort.ensures.0 c.if-not-has_one_sort.false)

pub is_merge-requires-clause-inner : goal.is_merge-requires-clause-inner
is_merge-requires-clause-inner c = costable-built c.args.cat.now c.args.q.now c.args.inner.now c.args.inner.now refl (c.has_one_sort-2.ensures.0 c.if-not-has_one_sort-2.false)

pub returns : goal.returns
returns c =
    merge-both c.args.cat.now c.args.q.now (plan c.args.outer.now) (plan c.args.inner.now) c.args.keys.now c.is_merge.result
    (c.has_one_sort.ensures.0 c.if-not-has_one_sort.false) (c.has_one_sort-2.ensures.0 c.if-not-has_one_sort-2.false) c.is_merge.ensures
