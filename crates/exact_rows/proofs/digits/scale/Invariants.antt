use Rattle.std.proofs.Common.{◌≡◌, ◌<◌, ◌+◌, ◌-◌, ◌*◌, ◌/◌}
use Rattle.exact_rows.specs.declared.digits.TheConstants.{BASE}
use Rattle.exact_rows.specs.work.Digits.{AreDigits, number}
use Rattle.exact_rows.proofs.DigitLemmas.{moved}
use Rattle.exact_rows.proofs.digits.scale.Given as goal

-- the share up to the place, each digit one place lower, with what is carried to it
abbrev pub invariant-loop-i : goal.invariant-loop-i
invariant-loop-i l = AreDigits l.len l.digits × (l.carry < BASE) × (moved l.share l.digits l.i l.carry ≡ (number l.fn.digits * l.share + (BASE - 1)) / BASE)
