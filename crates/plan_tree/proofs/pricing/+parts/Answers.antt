use Rattle.std.proofs.Common.{◌≡◌, ◌∙◌, ap, sym, subst, map}
use Rattle.cost_rules.specs.work.Costs.{capped}
use Rattle.plan_tree.specs.work.Costable.{IsMatchedBy, IsCostableTree}
use Rattle.plan_tree.specs.Costs.{parts_of_all, part_of}
use Rattle.plan_tree.specs.Bitmaps.{condition_at}
use Rattle.plan_tree.specs.Plans.{BitTree, some_arm}
use Rattle.plan_tree.specs.work.Views.{bits, trees_of}
use Rattle.plan_tree.proofs.PricingLemmas.{or-bits, arms-zip, arms-total, trees-done, trees-long}
use Rattle.plan_tree.proofs.pricing.+parts.Goals as goal

pub tree_part-arms_part-requires-clause-few : goal.tree_part-arms_part-requires-clause-few
tree_part-arms_part-requires-clause-few t c = c.in-Some.ensures.few c.args.cat.now c.requires.query

pub tree_part-arms_part-requires-clause-matched : goal.tree_part-arms_part-requires-clause-matched
tree_part-arms_part-requires-clause-matched t c =
    let tree : bits c.args.tree.now ≡ some_arm c.in-Or.n c.in-Or.indexes.items = ap bits c.in-Or.is ∙ or-bits c.in-Or.n c.in-Or.indexes in
    arms-zip (condition_at c.args.q.now c.in-Or.n) c.in-Some.arms.now c.in-Or.indexes.items c.deref-in-Some.result.now c.in-Some.ensures.arms c.deref-in-Some.ensures.value (IsMatchedBy c.args.cat.now c.args.r.0)
    (subst (IsCostableTree c.args.cat.now c.args.q.now c.args.r.0) tree c.requires.tree)

pub tree_part-returns-in-Some-clause-part : goal.tree_part-returns-in-Some-clause-part
tree_part-returns-in-Some-clause-part t c =
    let tree : bits c.args.tree.now ≡ some_arm c.in-Or.n c.in-Or.indexes.items = ap bits c.in-Or.is ∙ or-bits c.in-Or.n c.in-Or.indexes in
    c.arms_part.ensures.part
    ∙ arms-total (condition_at c.args.q.now c.in-Or.n) c.in-Some.arms.now c.in-Or.indexes.items c.deref-in-Some.result.now c.in-Some.ensures.arms c.deref-in-Some.ensures.value c.args.cat.now c.args.q.now c.args.r c.args.p
    ∙ ap (λ (x : BitTree). capped (part_of c.args.cat.now c.args.q.now c.args.r c.args.p x)) (sym tree)

pub trees_part-returns-clause-part : goal.trees_part-returns-clause-part
trees_part-returns-clause-part t c =
    let trees = c.args.trees.now in
    let parts = parts_of_all c.args.cat.now c.args.q.now c.args.r c.args.p (trees_of (map bits trees)) in
    c.together.ensures.part parts (trees-done c.args.cat.now c.args.q.now c.args.r c.args.p bits trees c.loop-tree.tree-index c.loop-tree.sum _ c.loop-tree-test.false c.loop-tree.invariant.most c.loop-tree.invariant.total)
    (sym (trees-long c.args.cat.now c.args.q.now c.args.r c.args.p bits trees))
