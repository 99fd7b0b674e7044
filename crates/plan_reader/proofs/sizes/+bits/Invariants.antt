use Rattle.std.proofs.Common.{◌≡◌, ◌≤◌, ◌+◌, min, drop}
use Rattle.plan_space.specs.Numbered.{all_bit_lines}
use Rattle.plan_tree.specs.work.Views.{bits_all}
use Rattle.plan_reader.proofs.sizes.+bits.Given as goal

abbrev pub invariant-count_all-loop-tree : goal.invariant-count_all-loop-tree
invariant-count_all-loop-tree l = record {
  few : l.count ≤ 257;
  sum : min (l.count + all_bit_lines (bits_all (drop l.tree-index l.trees))) 257 ≡ min (all_bit_lines (bits_all l.trees)) 257;
}
