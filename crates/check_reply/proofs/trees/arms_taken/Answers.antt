use Rattle.plan_tree.specs.Bitmaps.{condition_at}
use Rattle.plan_tree.specs.work.Views.{element}
use Rattle.std.proofs.Common.{◌≡◌, length, sym, subst}
use Rattle.plan_tree.specs.declared.elements.Element.{Element}
use Rattle.check_reply.specs.work.Telling as telling
use Rattle.check_reply.proofs.TreeLemmas.{arms-counted}
use Rattle.check_reply.proofs.trees.arms_taken.Goals as goal

pub returns-in-Some : goal.returns-in-Some
returns-in-Some c =
    subst (λ (e : Element). length c.in-Some.arms.now ≡ telling.arms_taken c.args.q.now (element e)) (sym c.in-Clause.is) (arms-counted (condition_at c.args.q.now c.in-Clause.n) c.in-Some.arms.now c.in-Some.ensures.arms)
