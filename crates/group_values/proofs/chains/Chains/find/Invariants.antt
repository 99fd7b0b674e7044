use Rattle.std.proofs.Common.{length}
use Rattle.group_values.specs.work.Chains.{chain_from}
use Rattle.group_values.proofs.ChainLemmas.{IsOn}
use Rattle.group_values.proofs.chains.Chains.find.Given as goal

abbrev pub invariant-loop-next : goal.invariant-loop-next
invariant-loop-next l = IsOn l.groups l.self.links l.keys l.next

abbrev pub decreases-loop-next : goal.decreases-loop-next
decreases-loop-next l = length (chain_from l.self.links l.next)
