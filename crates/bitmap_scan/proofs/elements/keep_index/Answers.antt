use Rattle.std.proofs.Common.{rules, ◌≡◌, ◌∙◌, sym}
use Rattle.pg_base.specs.Sets.{has}
use Rattle.index_match.proofs.PartLemmas.{conditions_local}
use Rattle.plan_tree.specs.Plans.{leaf}
use Rattle.plan_tree.specs.work.Views.{bits}
use Rattle.plan_tree.specs.declared.bits.BitTree.{Leaf}
use Rattle.plan_tree.specs.declared.bits.BitTree.TheViews.{the_lemmas}
use Rattle.plan_tree.specs.declared.bits.BitTree.TheVariants.{rolls-Leaf}
use Rattle.plan_tree.specs.declared.bits.BitTree.TheFolds.{fold-roll-BitTree, fold_out-BitTree, fold-roll-BitTrees, fold_out-BitTrees}
use Rattle.bitmap_scan.proofs.KeptLemmas.{kept-of}
use Rattle.bitmap_scan.proofs.elements.keep_index.Goals as goal

pub returns-clause-kept : goal.returns-clause-kept
returns-clause-kept c =
    let is : bits (Leaf c.args.i) ≡ leaf c.args.i = search (rules, the_lemmas, rolls-Leaf, fold-roll-BitTree, fold_out-BitTree, fold-roll-BitTrees, fold_out-BitTrees) in
    kept-of c.args.cat.now c.args.q.now c.args.at.rel c.args.at.param _ (leaf c.args.i) is c.index_served-found.ensures.part c.index_served-found.ensures.conditions
    (λ n e. (conditions_local c.args.cat.now c.args.q.now.classes c.args.i c.args.at.rel.0 (has c.args.at.param.0) n (sym (c.index_served-found.ensures.conditions n) ∙ e)).0) c.others_named-named.ensures
