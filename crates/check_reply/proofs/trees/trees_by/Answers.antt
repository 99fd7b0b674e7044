use Rattle.plan_tree.specs.declared.elements.Element.TheVariants.{Index}
use Rattle.check_reply.proofs.TreeLemmas.{next-made, next-passed}
use Rattle.check_reply.proofs.trees.trees_by.Goals as goal
use Rattle.check_reply.proofs.trees.trees_by.Goals.{then-left-eq1+in_ok-tree_by+in_ok-push, else-left-eq1}

pub loop-n-preserved : goal.loop-n-preserved
loop-n-preserved c = elim c.if-left-eq1.branch [
  | then-left-eq1+in_ok-tree_by+in_ok-push w ↦ rw (w.trees-is, w.rest-is)
      (next-made c.args.q.now c.args.mask c.loop-n.left c.loop-n.n c.args.elements.now c.args.indexes.now c.loop-n.rest.now c.loop-n.trees.items _ c.loop-n-test.true c.loop-n.invariant
      (w.parted.result.0).now (w.parted.result.1).now w.push.new.self.items w.in_ok-tree_by.field-0 w.arms_taken.result w.if-left-eq1.true w.arms_taken.ensures w.parted.ensures.first w.parted.ensures.others w.in_ok-tree_by.ensures w.in_ok-push.ensures.items)
  | else-left-eq1 w ↦ rw (w.trees-is, w.rest-is)
      (next-passed c.args.q.now c.args.mask c.loop-n.left c.loop-n.n c.args.elements.now c.args.indexes.now c.loop-n.rest.now c.loop-n.trees.items (Index (record { 0 = 0 })) c.loop-n-test.true c.loop-n.invariant w.if-left-eq1.false)
]
