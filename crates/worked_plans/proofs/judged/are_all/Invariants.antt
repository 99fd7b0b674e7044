use Rattle.std.proofs.Common.{◌≡◌, ◌<◌, ℕ}
use Rattle.eq_classes.specs.Listing.{clause_at}
use Rattle.worked_plans.specs.work.Examples.{firsts_equal}
use Rattle.worked_plans.proofs.judged.are_all.Given as goal

abbrev pub invariant-loop-n : goal.invariant-loop-n
invariant-loop-n l = (k : ℕ) → k < l.n → (clause_at l.classes.clauses k).cond ≡ firsts_equal
