use Rattle.certificate_entries.proofs.SetLemmas.{IsReading}
use Rattle.certificate_entries.proofs.sets.read_aliases.Given as goal

abbrev pub invariant-loop-n : goal.invariant-loop-n
invariant-loop-n l = IsReading l.q l.fn.at l.n l.set l.word l.at
