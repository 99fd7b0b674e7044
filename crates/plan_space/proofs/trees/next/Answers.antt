use Rattle.std.proofs.Common.{◌∙◌, ap, sym}
use Rattle.plan_tree.specs.Bitmaps.{element_of}
use Rattle.plan_tree.specs.declared.bits.BitTree.{BitTree as Tree}
use Rattle.plan_tree.specs.work.Views.{bits, element}
use Rattle.plan_space.proofs.TreeLemmas.{next-taken, next-passed, next-past}
use Rattle.plan_space.proofs.trees.next.Goals as goal
use Rattle.plan_space.proofs.trees.next.Goals.{else-at-trees-via-then-at-trees+else-is_element, else-at-trees-via-else-at-trees}

pub returns-then-is_element-clause-order : goal.returns-then-is_element-clause-order
returns-then-is_element-clause-order c = λ x q r p later.
    next-taken x q r p bits c.args.trees.now c.args.at c.index-trees-at.result (element c.args.e) later c.if-at-trees.true
    (ap (λ (t : Tree). element_of x q r p (bits t)) (sym c.index-trees-at.is) ∙ c.is_element.ensures.yes c.if-is_element.true x q r p)

pub returns-else-at-trees-clause-order : goal.returns-else-at-trees-clause-order
returns-else-at-trees-clause-order c = λ x q r p later.
    elim c.else-at-trees.branch [
      | else-at-trees-via-then-at-trees+else-is_element w ↦
          next-passed x q r p bits c.args.trees.now c.args.at w.index-trees-at.result (element c.args.e) later w.if-at-trees.true
          (λ same. w.is_element.ensures.no w.if-is_element.false x q r p (ap (λ (t : Tree). element_of x q r p (bits t)) w.index-trees-at.is ∙ same))
      | else-at-trees-via-else-at-trees w ↦ next-past x q r p bits c.args.trees.now c.args.at (element c.args.e) later w.if-at-trees.false
    ]
