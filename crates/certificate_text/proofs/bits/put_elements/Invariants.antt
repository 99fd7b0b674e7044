use Rattle.std.proofs.Common.{◌≡◌, ◌++◌, [], codes, cond, drop}
use Rattle.explain.specs.Texts.{with_commas}
use Rattle.plan_tree.specs.work.Views.{bits_all}
use Rattle.certificate_text.specs.HasText.{HaveElementTexts}
use Rattle.certificate_text.specs.Texts.{tree_texts}
use Rattle.certificate_text.proofs.bits.put_elements.Given as goal

abbrev pub invariant-loop-tree : goal.invariant-loop-tree
invariant-loop-tree l = record {
  text : l.text.items ++ with_commas (cond l.first [] (codes ", ")) (tree_texts l.cat l.q (bits_all (drop l.tree-index l.trees))) ≡ l.fn.text.items ++ with_commas [] (tree_texts l.cat l.q (bits_all l.trees));
  elements : HaveElementTexts l.cat l.q (bits_all (drop l.tree-index l.trees));
}
