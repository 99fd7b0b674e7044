use Rattle.hash_index.proofs.SlotLemmas.{AreUnder}
use Rattle.hash_index.proofs.chains.Chains.double.Given as goal

abbrev pub invariant-loop-slot : goal.invariant-loop-slot
invariant-loop-slot l = AreUnder l.initial.self.heads.items l.initial.self.groups.items l.self.heads.items l.self.groups.items l.self.links l.slot
