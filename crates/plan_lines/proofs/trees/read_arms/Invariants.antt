use Rattle.std.proofs.Common.{length}
use Rattle.plan_lines.proofs.TreeLemmas.{AreLeaves}
use Rattle.plan_lines.proofs.trees.read_arms.Given as goal

abbrev pub invariant-arms : goal.invariant-arms
invariant-arms l = AreLeaves l.cat l.q l.depth l.fn.at l.indexes.items l.at

abbrev pub decreases-arms : goal.decreases-arms
decreases-arms l = length l.at
