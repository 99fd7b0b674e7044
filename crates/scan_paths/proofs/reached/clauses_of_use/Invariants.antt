use Rattle.std.proofs.Common.{◌≡◌, ℕ, ◌&&◌, nat_lt}
use Rattle.pg_expr.specs.work.AtomSets.{contains}
use Rattle.catalog.specs.Contents.{index_at}
use Rattle.eq_classes.specs.Listing.{clause_at}
use Rattle.index_match.specs.Conditions.{is_condition}
use Rattle.scan_paths.proofs.reached.clauses_of_use.Given as goal

abbrev pub invariant-loop-n : goal.invariant-loop-n
invariant-loop-n l = (j : ℕ) → contains l.set j ≡ nat_lt j l.n && is_condition (index_at l.cat l.i) l.r.0 (clause_at l.q.classes.clauses j).cond
