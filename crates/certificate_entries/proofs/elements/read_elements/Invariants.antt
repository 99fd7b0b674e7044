use Rattle.std.proofs.Common.{length}
use Rattle.certificate_entries.proofs.ElementLemmas.{AreElements}
use Rattle.certificate_entries.proofs.elements.read_elements.Given as goal

abbrev pub invariant-list : goal.invariant-list
invariant-list l = AreElements l.cat l.q l.fn.at l.elements.items l.at

abbrev pub decreases-list : goal.decreases-list
decreases-list l = length l.at
