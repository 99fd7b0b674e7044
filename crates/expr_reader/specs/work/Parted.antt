-- Conditions each of whose ANDs and ORs has a part. Own; SQL writes no others.
use Rattle.pg_expr.specs.Cond.{Cond, compare, is_null, is_not_null, bool_col, const, all_of, any_of, negation, Conds, no_conds, cond_and}

-- there is a part
abbrev pub IsSome : Conds → Type 0
IsSome no_conds = ⊥
IsSome (cond_and c cs) = Unit {0}

-- each AND and each OR in a condition has a part
abbrev mutual
  pub HasParts : Cond → Type 0
  HasParts (compare op l r) = Unit {0}
  HasParts (is_null c) = Unit {0}
  HasParts (is_not_null c) = Unit {0}
  HasParts (bool_col c) = Unit {0}
  HasParts (const t) = Unit {0}
  HasParts (all_of cs) = IsSome cs × HaveParts cs
  HasParts (any_of cs) = IsSome cs × HaveParts cs
  HasParts (negation c) = HasParts c

  pub HaveParts : Conds → Type 0
  HaveParts no_conds = Unit {0}
  HaveParts (cond_and c cs) = HasParts c × HaveParts cs
