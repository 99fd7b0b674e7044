-- The truth of a condition as written, with NOT anywhere: three-valued logic. Source: SQL; PostgreSQL manual, Logical Operators.
use Rattle.pg_value.specs.declared.operators.Truth.{Truth}
use Rattle.pg_value.specs.declared.operators.Truth.TheVariants.{True, False, Unknown}
use Rattle.pg_value.specs.declared.value.Value.{Value}
use Rattle.pg_value.specs.declared.value.Value.TheVariants.{Null, Bool as Flag}
use Rattle.pg_value.specs.Truths.{both, either, opposite, truth_of, truth_of_op}
use Rattle.pg_expr.specs.declared.operand.ColRef.{ColRef}
use Rattle.pg_expr.specs.declared.operand.Operand.{Operand}
use Rattle.pg_expr.specs.declared.operand.Operand.TheVariants.{Col, Lit}
use Rattle.pg_expr.specs.Cond.{Cond, compare, is_null, is_not_null, bool_col, const, all_of, any_of, negation, Conds, no_conds, cond_and}

-- what a side of a comparison stands for, where the columns have these values
abbrev pub value_of : (ColRef → Value) → Operand → Value
value_of value_at (Col c) = value_at c
value_of value_at (Lit v) = v

-- IS NULL of a value, never Unknown
abbrev pub truth_of_null : Value → Truth
truth_of_null Null = True
truth_of_null _ = False

-- a truth value as a condition; NULL is Unknown
abbrev pub truth_of_flag : Value → Truth
truth_of_flag (Flag b) = truth_of b
truth_of_flag _ = Unknown

-- the truth of a condition, where the columns have these values
abbrev mutual
  pub truth_at : (ColRef → Value) → Cond → Truth
  truth_at value_at (compare op l r) = truth_of_op op (value_of value_at l) (value_of value_at r)
  truth_at value_at (is_null c) = truth_of_null (value_at c)
  truth_at value_at (is_not_null c) = opposite (truth_of_null (value_at c))
  truth_at value_at (bool_col c) = truth_of_flag (value_at c)
  truth_at value_at (const t) = t
  truth_at value_at (all_of cs) = truth_of_all value_at cs
  truth_at value_at (any_of cs) = truth_of_any value_at cs
  truth_at value_at (negation c) = opposite (truth_at value_at c)

  -- AND of a list
  pub truth_of_all : (ColRef → Value) → Conds → Truth
  truth_of_all value_at no_conds = True
  truth_of_all value_at (cond_and c cs) = both (truth_at value_at c) (truth_of_all value_at cs)

  -- OR of a list
  pub truth_of_any : (ColRef → Value) → Conds → Truth
  truth_of_any value_at no_conds = False
  truth_of_any value_at (cond_and c cs) = either (truth_at value_at c) (truth_of_any value_at cs)
