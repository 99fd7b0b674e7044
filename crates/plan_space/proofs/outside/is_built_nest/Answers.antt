use Rattle.std.proofs.Common.{refl}
use Rattle.plan_tree.specs.work.Views.{plan}
use Rattle.plan_space.proofs.JoinLemmas.{below-built}
use Rattle.plan_space.proofs.OutsideLemmas.{nest-both, nest-no-inner, nest-no-outer}
use Rattle.plan_space.proofs.outside.is_built_nest.Goals as goal

pub returns-then-not-has_one_sort : goal.returns-then-not-has_one_sort
returns-then-not-has_one_sort c = nest-no-outer c.args.cat.now c.args.q.now (plan c.args.outer.now) (plan c.args.inner.now) c.has_one_sort.result c.if-not-has_one_sort.true c.has_one_sort.ensures

pub returns-then-not-has_one_sort-2 : goal.returns-then-not-has_one_sort-2
returns-then-not-has_one_sort-2 c = nest-no-inner c.args.cat.now c.args.q.now (plan c.args.outer.now) (plan c.args.inner.now) c.has_one_sort-2.result c.if-not-has_one_sort-2.true c.has_one_sort-2.ensures

pub is_nest-requires-clause-outer : goal.is_nest-requires-clause-outer
is_nest-requires-clause-outer c = below-built c.args.cat.now c.args.q.now c.args.outer.now c.args.outer.now c.requires.query.few refl (c.has_one_sort.ensures.0 c.if-not-has_one_sort.false)

pub is_nest-requires-clause-inner : goal.is_nest-requires-clause-inner
is_nest-requires-clause-inner c = below-built c.args.cat.now c.args.q.now c.args.inner.now c.args.inner.now c.requires.query.few refl (c.has_one_sort-2.ensures.0 c.if-not-has_one_sort-2.false)

pub returns : goal.returns
returns c =
    nest-both c.args.cat.now c.args.q.now (plan c.args.outer.now) (plan c.args.inner.now) c.is_nest.result
    (c.has_one_sort.ensures.0 c.if-not-has_one_sort.false) (c.has_one_sort-2.ensures.0 c.if-not-has_one_sort-2.false) c.is_nest.ensures
