-- The columns that conditions name, from the left (own).
use Rattle.std.specs.Prelude.{List, [], ◌∷◌, ◌++◌}
use Rattle.pg_expr.specs.declared.operand.ColRef.{ColRef}
use Rattle.eq_classes.specs.Grouping.{operand_columns}
use Rattle.pg_expr.specs.Cond.{Cond, compare, is_null, is_not_null, bool_col, const, all_of, any_of, negation, Conds, no_conds, cond_and}

abbrev mutual
  -- the columns that a condition names
  pub columns_in : Cond → List ColRef
  columns_in (compare op l r) = operand_columns l ++ operand_columns r
  columns_in (is_null c) = c ∷ []
  columns_in (is_not_null c) = c ∷ []
  columns_in (bool_col c) = c ∷ []
  columns_in (const t) = []
  columns_in (all_of cs) = columns_in_all cs
  columns_in (any_of cs) = columns_in_all cs
  columns_in (negation c) = columns_in c

  -- the columns that a list of conditions names
  pub columns_in_all : Conds → List ColRef
  columns_in_all no_conds = []
  columns_in_all (cond_and c cs) = columns_in c ++ columns_in_all cs
