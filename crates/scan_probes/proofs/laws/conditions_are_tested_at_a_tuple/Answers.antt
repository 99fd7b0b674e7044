use Rattle.scan_probes.proofs.WorldLemmas.{fits, tested}
use Rattle.scan_probes.proofs.laws.conditions_are_tested_at_a_tuple.Goals as goal

pub returns-clause-ready : goal.returns-clause-ready
returns-clause-ready c w q r p o n has own es over own_is all = record { testable = all; values = fits w q over r p o n has own own_is }

pub returns-clause-truth : goal.returns-clause-truth
returns-clause-truth c w q r p o n has own es over own_is all = tested w q over r p o n has own own_is es all
