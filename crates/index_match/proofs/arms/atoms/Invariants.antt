use Rattle.std.proofs.Common.{◌≡◌, ℕ, ◌&&◌, nat_lt}
use Rattle.pg_expr.specs.work.AtomSets.{contains}
use Rattle.index_match.proofs.arms.atoms.Given as goal

abbrev pub invariant-loop-n : goal.invariant-loop-n
invariant-loop-n l = (k : ℕ) → contains l.atoms k ≡ nat_lt k l.n && contains l.set k
