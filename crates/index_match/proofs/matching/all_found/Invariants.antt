use Rattle.std.proofs.Common.{◌≡◌, ℕ, ◌&&◌, nat_lt}
use Rattle.pg_base.specs.Sets.{has}
use Rattle.pg_expr.specs.work.AtomSets.{contains}
use Rattle.catalog.specs.work.Entries.{index_of}
use Rattle.eq_classes.specs.Listing.{clause_at}
use Rattle.index_match.specs.work.Slots.{is_found}
use Rattle.index_match.proofs.matching.all_found.Given as goal

abbrev pub invariant-loop-n : goal.invariant-loop-n
invariant-loop-n l = (j : ℕ) → contains l.set j ≡ nat_lt j l.n && is_found (index_of l.def) l.r.0 (has l.fn.p.0) (clause_at l.classes.clauses j)
