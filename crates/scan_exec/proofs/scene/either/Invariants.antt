use Rattle.std.proofs.Common.{◌≡◌, ◌&&◌, ◌||◌, ℕ, nat_lt}
use Rattle.pg_expr.specs.work.AtomSets.{contains}
use Rattle.scan_exec.proofs.scene.either.Given as goal

abbrev pub invariant-loop-n : goal.invariant-loop-n
invariant-loop-n l = (k : ℕ) → contains l.set k ≡ nat_lt k l.n && (contains l.fn.a k || contains l.fn.b k)
