use Rattle.std.proofs.Common.{◌≡◌, ℕ, ◌&&◌, not, nat_lt}
use Rattle.pg_expr.specs.work.AtomSets.{contains}
use Rattle.index_match.proofs.matching.without.Given as goal

abbrev pub invariant-loop-n : goal.invariant-loop-n
invariant-loop-n l = (j : ℕ) → contains l.rest j ≡ nat_lt j l.n && (contains l.set j && not (contains l.other j))
