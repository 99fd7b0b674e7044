use Rattle.std.proofs.Common.{◌≢◌, ◌<◌, ℕ, get_or}
use Rattle.pathkeys.specs.work.Finding.{class_numbers}
use Rattle.certificate_entries.proofs.keys.stands_before.Given as goal

abbrev pub invariant-loop-i : goal.invariant-loop-i
invariant-loop-i l = (i : ℕ) → i < l.i → get_or (class_numbers l.keys) i 0 ≢ get_or (class_numbers l.keys) l.n 0
