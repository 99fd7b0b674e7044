-- Well typed conditions. Source: PostgreSQL manual, Data Types and Operator Type Resolution.
use Rattle.std.specs.Prelude.{◌≡◌, ◌+◌, ℕ, true, false, [], codes, pos}
use Rattle.pg_value.specs.declared.operators.Op.{Op}
use Rattle.pg_value.specs.declared.value.SqlType.{SqlType}
use Rattle.pg_value.specs.declared.value.SqlType.TheVariants.{Int2, Int4, Int8, Text as TextType, Bool as BoolType, Uuid as UuidType, Date as DateType, Timestamp as TimestampType, TimestampTz as TimestampTzType, Numeric as NumericType}
use Rattle.pg_value.specs.declared.value.Value.{Value}
use Rattle.pg_value.specs.declared.value.Value.TheVariants.{Int, Bool as Flag, Text as String}
use Rattle.pg_value.specs.Truths.{is_absolute, AreComparable}
use Rattle.pg_expr.specs.declared.operand.ColRef.{ColRef}
use Rattle.pg_expr.specs.declared.operand.Operand.{Operand}
use Rattle.pg_expr.specs.declared.operand.Operand.TheVariants.{Col, Lit}
use Rattle.pg_expr.specs.Cond.{Cond, compare, is_null, is_not_null, bool_col, const, all_of, any_of, negation, Conds, no_conds, cond_and}
use Rattle.pg_expr.specs.Truths.{value_of}

-- some value of a type that is not NULL; 0 also of a numeric type of sizes that no numeric has
abbrev pub some_value : SqlType → Value
some_value Int2 = Int (pos 0)
some_value Int4 = Int (pos 0)
some_value Int8 = Int (pos 0)
some_value TextType = String []
some_value BoolType = Flag false
some_value UuidType = String (codes "00000000-0000-0000-0000-000000000000")
some_value DateType = Int (pos 0)
some_value TimestampType = Int (pos 0)
some_value TimestampTzType = Int (pos 0)
some_value (NumericType digits scale) = Int (pos 0)

-- the kinds of types, of which values of two are never compared: the integer types are one kind, numerics are one for each scale
abbrev pub type_kind : SqlType → ℕ
type_kind Int2 = 0
type_kind Int4 = 0
type_kind Int8 = 0
type_kind TextType = 1
type_kind BoolType = 2
type_kind UuidType = 3
type_kind DateType = 4
type_kind TimestampType = 5
type_kind TimestampTzType = 6
type_kind (NumericType digits scale) = 7 + scale

-- two columns are of one kind; of a literal no type is known but what its value is of
abbrev pub AreAlike : (ColRef → SqlType) → Operand → Operand → Type 0
AreAlike type_of (Col c) (Col d) = type_kind (type_of c) ≡ type_kind (type_of d)
AreAlike type_of _ _ = Unit {0}

-- an operand is a literal or a column of an integer type
abbrev pub IsInteger : (ColRef → SqlType) → Operand → Type 0
IsInteger type_of (Col c) = type_kind (type_of c) ≡ 0
IsInteger type_of (Lit v) = Unit {0}

-- a comparison is well typed: its operator is defined on its sides, where each column has a value of its type, two columns are of one kind, and an operator by absolute value stands beside columns of integer types alone
pub record IsComparison (type_of : ColRef → SqlType) (op : Op) (l r : Operand) : Type 0 where
  pub comparable : AreComparable op (value_of (λ c. some_value (type_of c)) l) (value_of (λ c. some_value (type_of c)) r)
  pub alike : AreAlike type_of l r
  pub integers : is_absolute op ≡ true → IsInteger type_of l × IsInteger type_of r

-- each comparison is well typed, and each column that is a condition by itself is bool
abbrev mutual
  pub IsTyped : (ColRef → SqlType) → Cond → Type 0
  IsTyped type_of (compare op l r) = IsComparison type_of op l r
  IsTyped type_of (is_null c) = Unit {0}
  IsTyped type_of (is_not_null c) = Unit {0}
  IsTyped type_of (bool_col c) = type_of c ≡ BoolType
  IsTyped type_of (const t) = Unit {0}
  IsTyped type_of (all_of cs) = AreTyped type_of cs
  IsTyped type_of (any_of cs) = AreTyped type_of cs
  IsTyped type_of (negation c) = IsTyped type_of c

  pub AreTyped : (ColRef → SqlType) → Conds → Type 0
  AreTyped type_of no_conds = Unit {0}
  AreTyped type_of (cond_and c cs) = IsTyped type_of c × AreTyped type_of cs
