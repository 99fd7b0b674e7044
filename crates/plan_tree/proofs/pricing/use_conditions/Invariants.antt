use Rattle.std.proofs.Common.{◌≡◌, ◌||◌, ◌&&◌, ℕ, nat_lt}
use Rattle.pg_expr.specs.work.AtomSets.{contains}
use Rattle.plan_tree.proofs.pricing.use_conditions.Given as goal

abbrev pub invariant-loop-n : goal.invariant-loop-n
invariant-loop-n l = (k : ℕ) → contains l.used k ≡ contains l.fn.used k || (nat_lt k l.n && contains l.all k)
