use Rattle.std.proofs.Common.{◌≡◌, ℕ, ◌&&◌, nat_lt}
use Rattle.pg_base.specs.Sets.{has}
use Rattle.pg_expr.specs.work.AtomSets.{contains}
use Rattle.eq_classes.specs.Listing.{clause_at}
use Rattle.index_match.proofs.matching.local_clauses.Given as goal
use Rattle.eq_classes.specs.Parts.{is_local}

abbrev pub invariant-loop-n : goal.invariant-loop-n
invariant-loop-n l = (j : ℕ) → contains l.set j ≡ nat_lt j l.n && is_local l.fn.r.0 (has l.fn.p.0) (clause_at l.classes.clauses j)
