use Rattle.hash_index.proofs.SlotLemmas.{AreMore}
use Rattle.hash_index.proofs.chains.Chains.add_heads.Given as goal

abbrev pub invariant-loop : goal.invariant-loop
invariant-loop l = AreMore l.fn.self.groups.items l.fn.self.links l.fn.self.heads.items l.self.heads.items l.heads.items l.self.groups.items l.self.links l.counter
