-- How one atom implies another. An atom is a condition that is no AND and no OR. Own, in the manner of PostgreSQL's predtest.c.
use Rattle.std.specs.Prelude.{◌≡◌, Bool, true, false, cond, nat_eq, IsTrue, List, slice_get, Option, None, Some, option_and_then}
use Rattle.std.specs.Ordering.{is_lt, is_le, is_eq, is_ge, is_gt, is_ne}
use Rattle.std.specs.declared.cmp.Ordering.{Ordering}
use Rattle.pg_base.specs.declared.numbers.ColNo.{ColNo}
use Rattle.pg_value.specs.declared.columns.Column.{Column}
use Rattle.pg_value.specs.declared.operators.Family.{Family}
use Rattle.pg_value.specs.declared.operators.Family.TheVariants.{Integer, IntAbs, Text as TextOps, Bool as BoolOps, Uuid as UuidOps, Date as DateOps, Timestamp as TimestampOps, TimestampTz as TimestampTzOps, Numeric as NumericOps}
use Rattle.pg_value.specs.declared.operators.Op.{Op}
use Rattle.pg_value.specs.declared.operators.Op.TheVariants.{Lt, Le, Eq, Ge, Gt, Ne, AbsLt, AbsLe, AbsEq, AbsGe, AbsGt}
use Rattle.pg_value.specs.declared.value.SqlType.{SqlType}
use Rattle.pg_value.specs.declared.value.Value.{Value}
use Rattle.pg_value.specs.declared.value.Value.TheVariants.{Int, Bool as Flag, Text as String}
use Rattle.pg_value.specs.Order.{value_order}
use Rattle.pg_value.specs.Truths.{is_absolute}
use Rattle.opfamily.specs.Answers.{default_family_of}
use Rattle.pg_expr.specs.declared.operand.ColRef.{ColRef}
use Rattle.pg_expr.specs.declared.operand.Operand.{Operand}
use Rattle.pg_expr.specs.declared.operand.Operand.TheVariants.{Col, Lit}
use Rattle.pg_expr.specs.Cond.{Cond, compare, is_null, is_not_null, bool_col, const, all_of, any_of, negation}

-- a condition is an OR
abbrev pub is_any : Cond → Bool
is_any (any_of cs) = true
is_any _ = false

-- a condition is neither an AND nor an OR; in pushed form a NOT stands on an atom alone, and so is one
abbrev pub is_atom : Cond → Bool
is_atom (all_of cs) = false
is_atom (any_of cs) = false
is_atom _ = true

-- two sides of comparisons are one column, by its number alone, or one literal, by kind and value
abbrev pub SameSide : Operand → Operand → Type 0
SameSide (Col c) (Col d) = c.col ≡ d.col
SameSide (Lit v) (Lit w) = v ≡ w
SameSide _ _ = ⊥

-- two atoms are equal, with columns by their numbers alone
abbrev pub SameAtom : Cond → Cond → Type 0
SameAtom (compare op l r) (compare other m s) = (op ≡ other) × SameSide l m × SameSide r s
SameAtom (is_null c) (is_null d) = c.col ≡ d.col
SameAtom (is_not_null c) (is_not_null d) = c.col ≡ d.col
SameAtom (bool_col c) (bool_col d) = c.col ≡ d.col
SameAtom (const t) (const u) = t ≡ u
SameAtom (negation c) (negation d) = SameAtom c d
SameAtom _ _ = ⊥

-- a column has this number
abbrev pub has_column_number : ColNo → ColRef → Bool
has_column_number d c = nat_eq c.col.0 d.0

-- the family of an operator over a type: int_abs_ops for one by absolute value, else the type's default family, to which `<>` counts
abbrev pub typed_family : SqlType → Op → Option Family
typed_family t op = cond (is_absolute op) (Some IntAbs) (default_family_of t)

-- the family of an operator over a column; none where there is no such column
abbrev pub operator_family : List Column → ColNo → Op → Option Family
operator_family columns c op = option_and_then (λ column. typed_family column.typed op) (slice_get columns c.0)

-- a value, not NULL, of the kind that a family orders
abbrev pub IsFamilyValue : Family → Value → Type 0
IsFamilyValue Integer (Int n) = Unit {0}
IsFamilyValue IntAbs (Int n) = Unit {0}
IsFamilyValue TextOps (String t) = Unit {0}
IsFamilyValue BoolOps (Flag b) = Unit {0}
IsFamilyValue UuidOps (String t) = Unit {0}
IsFamilyValue DateOps (Int n) = Unit {0}
IsFamilyValue TimestampOps (Int n) = Unit {0}
IsFamilyValue TimestampTzOps (Int n) = Unit {0}
IsFamilyValue (NumericOps scale) (Int n) = Unit {0}
IsFamilyValue _ _ = ⊥

-- an operator by absolute value stands in the table as the one by value
abbrev pub plain : Op → Op
plain AbsLt = Lt
plain AbsLe = Le
plain AbsEq = Eq
plain AbsGe = Ge
plain AbsGt = Gt
plain op = op

-- the table: the operators of the clause and of the predicate, and how the predicate's literal has to stand to the clause's
abbrev pub implication_cell : Op → Op → Ordering → Bool
implication_cell Lt Lt = is_ge
implication_cell Lt Le = is_ge
implication_cell Lt Ne = is_ge
implication_cell Le Lt = is_gt
implication_cell Le Le = is_ge
implication_cell Le Ne = is_gt
implication_cell Eq Lt = is_gt
implication_cell Eq Le = is_ge
implication_cell Eq Eq = is_eq
implication_cell Eq Ge = is_le
implication_cell Eq Gt = is_lt
implication_cell Eq Ne = is_ne
implication_cell Ge Ge = is_le
implication_cell Ge Gt = is_lt
implication_cell Ge Ne = is_lt
implication_cell Gt Ge = is_le
implication_cell Gt Gt = is_le
implication_cell Gt Ne = is_le
implication_cell Ne Ne = is_eq
implication_cell _ _ = λ _. false

-- both literals are values of the family, and its order meets the table's cell
abbrev pub CellHolds : Option Family → Op → Value → Op → Value → Type 0
CellHolds None op v other w = ⊥
CellHolds (Some f) op v other w = IsFamilyValue f v × IsFamilyValue f w × IsTrue (implication_cell (plain op) (plain other) (value_order f w v))

-- a comparison of a column with a literal implies another of the same column: both operators are of one family, and the table's cell holds
abbrev pub TableGives : List Column → Op → ColNo → Value → Op → ColNo → Value → Type 0
TableGives columns op c v other d w = (c ≡ d) × (operator_family columns c op ≡ operator_family columns d other) × CellHolds (operator_family columns c op) op v other w
