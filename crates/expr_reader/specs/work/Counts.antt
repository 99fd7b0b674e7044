-- How many conjuncts a condition has in pushed form (own).
use Rattle.std.specs.Prelude.{ℕ, ◌+◌, Bool}
use Rattle.pg_expr.specs.Cond.{Cond, Conds, no_conds, cond_and}
use Rattle.pg_expr.specs.Conjuncts.{conjuncts_of}
use Rattle.pg_expr.specs.Pushed.{pushed}

-- the number of conditions of a list
abbrev pub count_of : Conds → ℕ
count_of no_conds = 0
count_of (cond_and c cs) = 1 + count_of cs

-- the number of conjuncts of a condition or, where `negated`, of its NOT, in pushed form
abbrev pub conjuncts_counted : Bool → Cond → ℕ
conjuncts_counted negated c = count_of (conjuncts_of (pushed negated c))
