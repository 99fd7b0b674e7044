use Rattle.std.proofs.Common.{◌∙◌, sym, subst, true≢false}
use Rattle.std.proofs.Common.{refl}
use Rattle.plan_tree.specs.Bitmaps.{HasArms}
use Rattle.plan_tree.specs.declared.bits.BitTree.{BitTree as Tree}
use Rattle.plan_tree.specs.work.Views.{bits}
use Rattle.plan_space.proofs.TreeLemmas.{have-at, have-more, have-all}
use Rattle.plan_space.proofs.trees.have_arms.Goals as goal

pub returns-then-not-node_has_arms : goal.returns-then-not-node_has_arms
returns-then-not-node_has_arms c = λ p. (
  λ wrong. absurd (true≢false (sym wrong)),
  λ h. absurd (true≢false (sym ((c.node_has_arms.ensures p).1 (subst (λ (t : Tree). HasArms c.args.cat.now c.args.q.now c.args.r.0 p (bits t)) (sym c.tree-item.is)
      (have-at c.args.cat.now c.args.q.now c.args.r.0 p bits c.args.trees.now c.loop-tree.tree-index c.tree-item.result h c.loop-tree-test.true))) ∙ c.if-not-node_has_arms.true)),
)

pub loop-tree-preserved : goal.loop-tree-preserved
loop-tree-preserved c = λ p.
    have-more c.args.cat.now c.args.q.now c.args.r.0 p bits c.args.trees.now c.loop-tree.tree-index c.tree-item.result c.loop-tree-test.true
    (subst (λ (t : Tree). HasArms c.args.cat.now c.args.q.now c.args.r.0 p (bits t)) c.tree-item.is ((c.node_has_arms.ensures p).0 c.if-not-node_has_arms.false)) (c.loop-tree.invariant p)

pub returns : goal.returns
returns c = λ p. (λ h. have-all c.args.cat.now c.args.q.now c.args.r.0 p bits c.args.trees.now c.loop-tree.tree-index c.loop-tree-test.false (c.loop-tree.invariant p), λ h. refl)
