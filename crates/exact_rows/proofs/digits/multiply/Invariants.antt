use Rattle.std.proofs.Common.{◌≡◌, ◌<◌, ◌*◌, ◌^◌}
use Rattle.exact_rows.specs.work.Digits.{AreDigits, number}
use Rattle.exact_rows.proofs.DigitLemmas.{reached}
use Rattle.exact_rows.proofs.digits.multiply.Given as goal

-- the product up to the place, with what is carried to it
abbrev pub invariant-loop-i : goal.invariant-loop-i
invariant-loop-i l = AreDigits l.len l.digits × (l.carry < 2 ^ 32) × (reached l.n l.digits l.i l.carry ≡ number l.fn.digits * l.n)
