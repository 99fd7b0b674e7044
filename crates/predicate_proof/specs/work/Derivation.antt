-- Working words beside those of `Derivation`.
use Rattle.pg_expr.specs.Cond.{Cond, all_of, any_of, Conds, no_conds, cond_and}

-- each AND and each OR of a condition has a part
abbrev mutual
  pub IsFilled : Cond → Type 0
  IsFilled (all_of no_conds) = ⊥
  IsFilled (any_of no_conds) = ⊥
  IsFilled (all_of cs) = AreFilled cs
  IsFilled (any_of cs) = AreFilled cs
  IsFilled _ = Unit {0}

  pub AreFilled : Conds → Type 0
  AreFilled no_conds = Unit {0}
  AreFilled (cond_and c cs) = IsFilled c × AreFilled cs
