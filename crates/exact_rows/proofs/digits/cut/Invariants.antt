use Rattle.std.proofs.Common.{◌≡◌}
use Rattle.std.specs.Prelude.{drop, min}
use Rattle.exact_rows.specs.work.Digits.{number}
use Rattle.exact_rows.proofs.digits.cut.Given as goal

-- the number of the digits from the place on, cut
abbrev pub invariant-loop-i : goal.invariant-loop-i
invariant-loop-i l = l.rows ≡ min (number (drop l.i l.digits)) l.most
