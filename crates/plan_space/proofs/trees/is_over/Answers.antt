use Rattle.std.proofs.Common.{◌≡◌, ◌∙◌, List, ap, map, subst, sym}
use Rattle.plan_tree.specs.Bitmaps.{IsTreeOver}
use Rattle.plan_tree.specs.Plans.{all_hold}
use Rattle.plan_tree.specs.declared.bits.BitTree.{BitTree as Tree}
use Rattle.plan_tree.specs.work.Views.{bits, bits_all, element}
use Rattle.plan_tree.proofs.PricingLemmas.{and-bits}
use Rattle.plan_space.proofs.trees.is_over.Goals as goal

pub returns-in-And : goal.returns-in-And
returns-in-And c = λ p.
    let tree : bits c.args.tree.now ≡ all_hold (bits_all c.deref.result.now) = ap bits c.in-And.is ∙ and-bits c.in-And.parts ∙ ap (λ (xs : List Tree). all_hold (bits_all xs)) (sym c.deref.ensures.value) in
    let over = IsTreeOver c.args.cat.now c.args.q.now c.args.r.0 p (map element c.args.found.now) in
    (λ h. subst over (sym tree) ((c.are_over.ensures p).0 h), λ h. (c.are_over.ensures p).1 (subst over tree h))
