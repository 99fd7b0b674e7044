use Rattle.std.proofs.Common.{◌≡◌, ◌+◌, drop}
use Rattle.plan_tree.specs.work.Views.{bits_all}
use Rattle.plan_space.specs.Numbered.{all_bit_lines}
use Rattle.plan_space.proofs.lines.+bits.Given as goal

abbrev pub invariant-lines_of_all-loop-tree : goal.invariant-lines_of_all-loop-tree
invariant-lines_of_all-loop-tree l = l.count + all_bit_lines (bits_all (drop l.tree-index l.trees)) ≡ all_bit_lines (bits_all l.trees)
