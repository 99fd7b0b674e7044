use Rattle.std.proofs.Common.{◌≡◌, ◌<◌, ℕ, false}
use Rattle.pg_expr.specs.work.AtomSets.{contains}
use Rattle.plan_tree.proofs.elements.has_some.Given as goal

abbrev pub invariant-loop-n : goal.invariant-loop-n
invariant-loop-n l = (j : ℕ) → j < l.n → contains l.fn.set j ≡ false
