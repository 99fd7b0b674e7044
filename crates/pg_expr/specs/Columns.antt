-- The columns that a condition names, and how many atoms it has. Own.
use Rattle.std.specs.Prelude.{ℕ, ◌+◌, Bool, true, false, ◌&&◌, ◌||◌, nat_eq}
use Rattle.pg_expr.specs.declared.operand.ColRef.{ColRef}
use Rattle.pg_expr.specs.declared.operand.Operand.{Operand}
use Rattle.pg_expr.specs.declared.operand.Operand.TheVariants.{Col, Lit}
use Rattle.pg_expr.specs.Cond.{Cond, compare, is_null, is_not_null, bool_col, const, all_of, any_of, negation, Conds, no_conds, cond_and}

-- whether an operand is a column that passes the test
abbrev pub names_column : (ColRef → Bool) → Operand → Bool
names_column test (Col c) = test c
names_column test (Lit v) = false

-- whether some column of the condition passes the test
abbrev mutual
  pub some_column : (ColRef → Bool) → Cond → Bool
  some_column test (compare op l r) = names_column test l || names_column test r
  some_column test (is_null c) = test c
  some_column test (is_not_null c) = test c
  some_column test (bool_col c) = test c
  some_column test (const t) = false
  some_column test (all_of cs) = some_column_of test cs
  some_column test (any_of cs) = some_column_of test cs
  some_column test (negation c) = some_column test c

  pub some_column_of : (ColRef → Bool) → Conds → Bool
  some_column_of test no_conds = false
  some_column_of test (cond_and c cs) = some_column test c || some_column_of test cs

-- whether an operand is a literal, or a column that passes the test
abbrev pub passes_column : (ColRef → Bool) → Operand → Bool
passes_column test (Col c) = test c
passes_column test (Lit v) = true

-- whether each column of the condition passes the test
abbrev mutual
  pub each_column : (ColRef → Bool) → Cond → Bool
  each_column test (compare op l r) = passes_column test l && passes_column test r
  each_column test (is_null c) = test c
  each_column test (is_not_null c) = test c
  each_column test (bool_col c) = test c
  each_column test (const t) = true
  each_column test (all_of cs) = each_column_of test cs
  each_column test (any_of cs) = each_column_of test cs
  each_column test (negation c) = each_column test c

  pub each_column_of : (ColRef → Bool) → Conds → Bool
  each_column_of test no_conds = true
  each_column_of test (cond_and c cs) = each_column test c && each_column_of test cs

-- whether the condition names the relation
abbrev pub names_rel : ℕ → Cond → Bool
names_rel rel = some_column (λ c. nat_eq rel c.rel.0)

-- how many comparisons, null tests and boolean columns the condition has; a constant is none
abbrev mutual
  pub atom_count : Cond → ℕ
  atom_count (compare op l r) = 1
  atom_count (is_null c) = 1
  atom_count (is_not_null c) = 1
  atom_count (bool_col c) = 1
  atom_count (const t) = 0
  atom_count (all_of cs) = atom_count_of cs
  atom_count (any_of cs) = atom_count_of cs
  atom_count (negation c) = atom_count c

  pub atom_count_of : Conds → ℕ
  atom_count_of no_conds = 0
  atom_count_of (cond_and c cs) = atom_count c + atom_count_of cs
