-- How many nodes a condition has: what a search through conditions uses up. Own.
use Rattle.std.specs.Prelude.{ℕ, ◌+◌}
use Rattle.pg_expr.specs.Cond.{Cond, all_of, any_of, negation, Conds, no_conds, cond_and}

abbrev mutual
  pub weight : Cond → ℕ
  weight (all_of cs) = weight_all cs + 1
  weight (any_of cs) = weight_all cs + 1
  weight (negation c) = weight c + 1
  weight _ = 1

  pub weight_all : Conds → ℕ
  weight_all no_conds = 0
  weight_all (cond_and c cs) = weight c + weight_all cs
