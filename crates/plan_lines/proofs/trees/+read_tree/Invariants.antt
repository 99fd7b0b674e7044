use Rattle.std.proofs.Common.{◌+◌, ◌*◌, ◌-◌, length}
use Rattle.plan_lines.proofs.TreeLemmas.{AreTrees}
use Rattle.plan_lines.proofs.trees.+read_tree.Given as goal

abbrev pub invariant-read_all-trees : goal.invariant-read_all-trees
invariant-read_all-trees l = AreTrees l.cat l.q l.depth l.fn.at l.items.items l.at

abbrev pub decreases-read_all-trees : goal.decreases-read_all-trees
decreases-read_all-trees l = length l.at

abbrev pub decreases-read_tree : goal.decreases-read_tree
decreases-read_tree l = 2 * (65 - l.depth)

abbrev pub decreases-read_all : goal.decreases-read_all
decreases-read_all l = 2 * (64 - l.depth) + 1
