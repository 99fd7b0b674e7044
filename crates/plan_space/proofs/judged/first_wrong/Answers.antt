use Rattle.std.proofs.Common.{◌∙◌, refl}
use Rattle.plan_tree.specs.work.Views.{plan}
use Rattle.plan_space.proofs.JudgeLemmas.{all-same, one-more, wrong-at}
use Rattle.plan_space.proofs.judged.first_wrong.Goals as goal

pub returns-in-Some-clause-some : goal.returns-in-Some-clause-some
returns-in-Some-clause-some c =
    wrong-at c.args.cat.now c.args.q.now (plan c.args.p.now) c.args.numbers.now c.requires.count c.loop-place.place c.node_at-node.result.line _ (c.node_at-node.result.cost, c.node_at-node.result.rows) c.in-Some.wrong
    c.loop-place-test.true c.loop-place.invariant c.node_at-node.ensures.line refl c.node_at-node.ensures.own c.in-Some.ensures.some

pub loop-place-preserved : goal.loop-place-preserved
loop-place-preserved c =
    one-more c.args.cat.now c.args.q.now (plan c.args.p.now) c.args.numbers.now c.requires.count c.loop-place.place c.loop-place-test.true c.loop-place.invariant (c.in-None.ensures.none ∙ c.node_at-node.ensures.own)

pub returns-clause-none : goal.returns-clause-none
returns-clause-none c = all-same c.args.cat.now c.args.q.now (plan c.args.p.now) c.args.numbers.now c.requires.count c.loop-place.place c.loop-place-test.false c.loop-place.invariant
