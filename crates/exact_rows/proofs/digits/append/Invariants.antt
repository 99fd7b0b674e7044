use Rattle.std.proofs.Common.{◌≡◌, ◌+◌, ◌*◌, ◌^◌}
use Rattle.exact_rows.specs.declared.digits.TheConstants.{BASE}
use Rattle.exact_rows.specs.work.Digits.{AreDigits, number}
use Rattle.exact_rows.proofs.digits.append.Given as goal

-- the digits put with what is left of the number
abbrev pub invariant-loop-left : goal.invariant-loop-left
invariant-loop-left l = AreDigits l.at l.digits × (number l.digits + BASE ^ l.at * l.left ≡ number l.fn.digits + BASE ^ l.len * l.more)

abbrev pub decreases-loop-left : goal.decreases-loop-left
decreases-loop-left l = l.left
