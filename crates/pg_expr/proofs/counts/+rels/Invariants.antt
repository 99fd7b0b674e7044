use Rattle.std.proofs.Common.{◌≡◌, ℕ, ◌||◌, IsTrue, nat_eq, nat_lt, drop}
use Rattle.pg_base.specs.Sets.{has}
use Rattle.pg_expr.specs.Columns.{some_column_of, each_column_of}
use Rattle.pg_expr.specs.work.View.{conds}
use Rattle.pg_expr.proofs.counts.+rels.Given as goal

abbrev pub invariant-rels_of-loop-part : goal.invariant-rels_of-loop-part
invariant-rels_of-loop-part l =
    let rest = conds (drop l.part-index l.parts) in
    record {
      named : (k : ℕ) → has l.all.0 k || some_column_of (λ c. nat_eq k c.rel.0) rest ≡ some_column_of (λ c. nat_eq k c.rel.0) (conds l.parts);
      below : IsTrue (each_column_of (λ c. nat_lt c.rel.0 16) rest);
    }
