use Rattle.std.proofs.Common.{◌≡◌, ℕ, ◌<◌, get_or}
use Rattle.pg_expr.specs.declared.expr.Expr.{Expr}
use Rattle.pg_expr.specs.work.View.{cond}
use Rattle.pg_expr.proofs.same.+same.Given as goal

abbrev pub invariant-are_same-loop-i : goal.invariant-are_same-loop-i
invariant-are_same-loop-i l = (k : ℕ) (d : Expr) → k < l.i → cond (get_or l.a k d) ≡ cond (get_or l.b k d)
