use Rattle.exact_rows.specs.work.Digits.{AreDigits}
use Rattle.exact_rows.proofs.digits.trim.Given as goal

-- the digits from the place on are 0
abbrev pub invariant-loop-top : goal.invariant-loop-top
invariant-loop-top l = AreDigits l.top l.digits

abbrev pub decreases-loop-top : goal.decreases-loop-top
decreases-loop-top l = l.top
