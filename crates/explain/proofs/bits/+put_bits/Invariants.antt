use Rattle.std.proofs.Common.{◌≡◌, ◌++◌, drop}
use Rattle.plan_tree.specs.work.Views.{bits_all}
use Rattle.explain.specs.work.Lines.{HaveIndexes}
use Rattle.explain.specs.Texts.{trees_text}
use Rattle.explain.proofs.bits.+put_bits.Given as goal

abbrev pub invariant-put_trees-loop-tree : goal.invariant-put_trees-loop-tree
invariant-put_trees-loop-tree l = record {
  text : l.text.items ++ trees_text l.cat l.q l.lead (bits_all (drop l.tree-index l.trees)) ≡ l.fn.text.items ++ trees_text l.cat l.q l.lead (bits_all l.trees);
  indexes : HaveIndexes l.cat (bits_all (drop l.tree-index l.trees));
}
