use Rattle.std.proofs.Common.{◌≡◌, ◌&&◌, ℕ, map, nat_lt}
use Rattle.pg_expr.specs.work.AtomSets.{contains}
use Rattle.eq_classes.specs.Listing.{clause_at}
use Rattle.eq_classes.specs.declared.classes.ClassNo.{ClassNo}
use Rattle.path_cost.specs.Estimates.{is_pair_of}
use Rattle.path_cost.proofs.estimates.key_pairs.Given as goal

abbrev pub invariant-loop-n : goal.invariant-loop-n
invariant-loop-n l = (k : ℕ) → contains l.set k ≡ nat_lt k l.n && (contains l.joining k && is_pair_of (map (λ (c : ClassNo). c.0) l.keys) (clause_at l.classes.clauses k))
