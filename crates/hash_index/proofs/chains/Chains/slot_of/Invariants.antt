use Rattle.std.proofs.Common.{length}
use Rattle.linked.specs.work.Lists.{list_of}
use Rattle.hash_index.proofs.WalkLemmas.{IsOn, onward}
use Rattle.hash_index.proofs.chains.Chains.slot_of.Given as goal

abbrev pub invariant-loop-next : goal.invariant-loop-next
invariant-loop-next l = IsOn l.self.groups.items l.self.links l.head l.v l.next

abbrev pub decreases-loop-next : goal.decreases-loop-next
decreases-loop-next l = length (onward l.next (list_of l.self.links l.head))
