use Rattle.std.proofs.Common.{◌≡◌, ◌+◌, ◌∷◌, take}
use Rattle.statements.specs.Faults.{word_ends as ends_of_words}
use Rattle.statements.proofs.faults.word_ends.Given as goal

abbrev pub invariant-loop-n : goal.invariant-loop-n
invariant-loop-n l = l.ends.items ≡ take (l.n + 1) (ends_of_words l.at (l.name ∷ l.names))
