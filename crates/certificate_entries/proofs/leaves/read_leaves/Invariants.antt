use Rattle.std.proofs.Common.{length}
use Rattle.certificate_entries.proofs.LeafLemmas.{AreLeaves}
use Rattle.certificate_entries.proofs.leaves.read_leaves.Given as goal

abbrev pub invariant-list : goal.invariant-list
invariant-list l = AreLeaves l.cat l.fn.at l.indexes.items l.at

abbrev pub decreases-list : goal.decreases-list
decreases-list l = length l.at
