use Rattle.std.proofs.Common.{length}
use Rattle.pg_base.specs.Sets.{has}
use Rattle.certificate_entries.proofs.KeyListLemmas.{AreKeys}
use Rattle.certificate_entries.proofs.key_lists.read_keys.Given as goal

abbrev pub invariant-loop-set : goal.invariant-loop-set
invariant-loop-set l = AreKeys l.cat l.q (has l.set.0) l.fn.at l.keys.items l.at

abbrev pub decreases-loop-set : goal.decreases-loop-set
decreases-loop-set l = length l.at
