use Rattle.plan_lines.proofs.GivenLemmas.{IsReading}
use Rattle.plan_lines.proofs.given.read_given.Given as goal

abbrev pub invariant-loop-n : goal.invariant-loop-n
invariant-loop-n l = IsReading l.q l.fn.text l.n l.set l.word l.at
