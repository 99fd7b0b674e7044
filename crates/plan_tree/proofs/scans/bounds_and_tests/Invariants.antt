use Rattle.std.proofs.Common.{◌≡◌, ◌&&◌, ◌||◌, ℕ, nat_lt}
use Rattle.pg_expr.specs.work.AtomSets.{contains}
use Rattle.plan_tree.proofs.scans.bounds_and_tests.Given as goal

abbrev pub invariant-loop-n : goal.invariant-loop-n
invariant-loop-n l = (k : ℕ) → contains l.set k ≡ nat_lt k l.n && (contains l.fn.found.bounds k || contains l.fn.found.tests k)
