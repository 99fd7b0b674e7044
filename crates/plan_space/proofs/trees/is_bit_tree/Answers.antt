use Rattle.std.proofs.Common.{◌∙◌, map}
use Rattle.pg_base.specs.Sets.{has}
use Rattle.plan_tree.specs.work.Views.{bits, element}
use Rattle.plan_space.proofs.TreeLemmas.{over-found}
use Rattle.plan_space.proofs.trees.is_bit_tree.Goals as goal

pub returns : goal.returns
returns c =
    let p = has c.args.p.0 in
    let is = over-found c.args.cat.now c.args.q.now c.args.r.0 p (bits c.args.tree.now) (map element c.items.result.now)
    (c.first_elements-found.ensures.elements.0, c.first_elements-found.ensures.elements.1, c.items.ensures.list ∙ c.first_elements-found.ensures.elements.2) in
    (λ h. is.0 ((c.is_over.ensures p).0 h), λ h. (c.is_over.ensures p).1 (is.1 h))
