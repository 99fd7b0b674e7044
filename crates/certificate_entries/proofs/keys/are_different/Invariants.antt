use Rattle.std.proofs.Common.{◌≢◌, ◌<◌, ℕ, get_or}
use Rattle.pathkeys.specs.work.Finding.{class_numbers}
use Rattle.certificate_entries.proofs.keys.are_different.Given as goal

abbrev pub invariant-loop-n : goal.invariant-loop-n
invariant-loop-n l = (i j : ℕ) → i < j → j < l.n → get_or (class_numbers l.keys) i 0 ≢ get_or (class_numbers l.keys) j 0
