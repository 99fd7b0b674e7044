-- Working words beside those of `Columns`.
use Rattle.std.specs.Prelude.{ℕ, Bool, nat_lt}
use Rattle.pg_expr.specs.Cond.{Cond}
use Rattle.pg_expr.specs.Columns.{each_column}

-- whether the relations that the condition names are below the limit
abbrev pub rels_below : ℕ → Cond → Bool
rels_below limit = each_column (λ c. nat_lt c.rel.0 limit)
