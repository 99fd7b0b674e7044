use Rattle.std.proofs.Common.{◌≡◌, ◌++◌, ℕ, List, drop}
use Rattle.plan_tree.specs.work.Views.{bits_all}
use Rattle.certificate_entries.specs.explain_Texts.{trees_text}
use Rattle.plan_lines.specs.HasText.{HaveBits}
use Rattle.plan_lines.specs.Stands.{Stand}
use Rattle.plan_lines.proofs.compared.+behind_bits.Given as goal

abbrev pub invariant-behind_trees-loop-tree : goal.invariant-behind_trees-loop-tree
invariant-behind_trees-loop-tree l = record {
  is : (rest : List ℕ) → l.left ≡ trees_text l.cat l.q l.depth (bits_all (drop l.tree-index l.trees)) ++ rest → l.fn.text ≡ trees_text l.cat l.q l.depth (bits_all l.trees) ++ rest;
  only : (rest : List ℕ) → l.fn.text ≡ trees_text l.cat l.q l.depth (bits_all l.trees) ++ rest → l.left ≡ trees_text l.cat l.q l.depth (bits_all (drop l.tree-index l.trees)) ++ rest;
  has : HaveBits l.cat l.q (bits_all (drop l.tree-index l.trees));
  stand : Stand l.depth (bits_all (drop l.tree-index l.trees));
}
