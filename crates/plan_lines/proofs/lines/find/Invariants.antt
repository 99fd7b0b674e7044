use Rattle.std.proofs.Common.{◌≡◌, ◌≤◌, ◌++◌, ◌∷◌, List, ℕ, length, true}
use Rattle.plan_lines.specs.work.Parts.{lacks}
use Rattle.plan_lines.proofs.lines.find.Given as goal

abbrev pub invariant-loop-n : goal.invariant-loop-n
invariant-loop-n l = (t rest : List ℕ) → lacks l.b t ≡ true → l.text ≡ t ++ (l.b ∷ rest) → l.n ≤ length t
