use Rattle.std.proofs.Common.{◌≡◌, ℕ, ◌&&◌, nat_lt}
use Rattle.opfamily.specs.pg_base_Sets.{has}
use Rattle.pg_expr.specs.work.AtomSets.{contains}
use Rattle.eq_classes.specs.Parts.{is_all}
use Rattle.eq_classes.specs.Listing.{clause_at}
use Rattle.eq_classes.specs.work.Listing.{clauses_of}
use Rattle.eq_classes.proofs.classes.Classes.all_clauses.Given as goal

abbrev pub invariant-loop-n : goal.invariant-loop-n
invariant-loop-n l = (k : ℕ) → contains l.set k ≡ nat_lt k l.n && is_all (has l.s.0) (clause_at l.self.clauses k)
