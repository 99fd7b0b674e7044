use Rattle.std.proofs.Common.{◌≡◌, ℕ, ◌&&◌, nat_lt}
use Rattle.std.specs.Prelude.{is_some}
use Rattle.pg_expr.specs.work.AtomSets.{contains}
use Rattle.pg_expr.specs.Columns.{names_rel}
use Rattle.eq_classes.specs.Listing.{clause_at, conjunct_of}
use Rattle.planner.proofs.near.conjuncts_of.Given as goal

abbrev pub invariant-loop-n : goal.invariant-loop-n
invariant-loop-n l = (j : ℕ) → contains l.set j ≡ nat_lt j l.n && (is_some (conjunct_of (clause_at l.q.classes.clauses j).source) && names_rel l.r.0 (clause_at l.q.classes.clauses j).cond)
