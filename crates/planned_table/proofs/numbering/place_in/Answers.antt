use Rattle.std.proofs.Common.{Bor, ap, arith, sym, ◌∙◌, true≢false}
use Rattle.std.specs.Prelude.{slice_get}
use Rattle.plan_tree.specs.work.Views.{plan}
use Rattle.plan_tree.specs.declared.path.Path.{Path as Costed}
use Rattle.planned_table.specs.work.Numbering.{trees}
use Rattle.planned_table.proofs.NumberLemmas.{none-more, other-tree, tree-at}
use Rattle.planned_table.proofs.numbering.place_in.Goals as goal

pub loop-n-preserved : goal.loop-n-preserved
loop-n-preserved c =
    let xs = c.args.listed.now in
    let n = c.loop-n.n in
    let x = c.index-listed-n.result in
    let t = plan c.args.tree.now in
    none-more (trees xs) c.args.from n t c.loop-n.invariant
    (other-tree (slice_get (trees xs) n) (plan x.now.plan) t (tree-at xs n x (omega (arith, c.loop-n-test.true, c.requires.within)) c.index-listed-n.is)
    (λ same. true≢false (sym (c.is_same_plan.ensures.1 (sym (ap (λ (y : Bor Costed). plan y.now.plan) c.index-listed-n.is) ∙ same)) ∙ c.if-is_same_plan.false)))
