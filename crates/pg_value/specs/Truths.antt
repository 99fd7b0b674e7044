-- Three-valued truth, and the truth of a comparison.
use Rattle.std.specs.Prelude.{◌≡◌, Bool, true, false, cond, Option, None, Some}
use Rattle.std.specs.Ordering.{is_lt, is_le, is_eq, is_ge, is_gt, is_ne}
use Rattle.std.specs.declared.cmp.Ordering.{Ordering}
use Rattle.pg_value.specs.declared.operators.Truth.{Truth}
use Rattle.pg_value.specs.declared.operators.Truth.TheVariants.{True, False, Unknown}
use Rattle.pg_value.specs.declared.operators.Op.{Op}
use Rattle.pg_value.specs.declared.operators.Op.TheVariants.{Lt, Le, Eq, Ge, Gt, Ne, AbsLt, AbsLe, AbsEq, AbsGe, AbsGt}
use Rattle.pg_value.specs.declared.operators.Family.{Family}
use Rattle.pg_value.specs.declared.operators.Family.TheVariants.{Integer, IntAbs, Text as TextOps, Bool as BoolOps}
use Rattle.pg_value.specs.declared.value.Value.{Value}
use Rattle.pg_value.specs.declared.value.Value.TheVariants.{Null, Int, Bool as Flag, Text as String}
use Rattle.pg_value.specs.Order.{value_order}

-- AND: False where one is False, else Unknown where one is Unknown, else True (SQL)
abbrev pub both : Truth → Truth → Truth
both False _ = False
both True t = t
both Unknown False = False
both Unknown True = Unknown
both Unknown Unknown = Unknown

-- OR: True where one is True, else Unknown where one is Unknown, else False (SQL)
abbrev pub either : Truth → Truth → Truth
either True _ = True
either False t = t
either Unknown True = True
either Unknown False = Unknown
either Unknown Unknown = Unknown

-- NOT: True and False change places (SQL)
abbrev pub opposite : Truth → Truth
opposite True = False
opposite False = True
opposite Unknown = Unknown

-- True where a test holds, else False
abbrev pub truth_of : Bool → Truth
truth_of true = True
truth_of false = False

-- whether a row passes: only True does, Unknown is no more than False (SQL, WHERE)
abbrev pub is_true : Truth → Bool
is_true True = true
is_true False = false
is_true Unknown = false

-- whether an operator compares absolute values
abbrev pub is_absolute : Op → Bool
is_absolute AbsLt = true
is_absolute AbsLe = true
is_absolute AbsEq = true
is_absolute AbsGe = true
is_absolute AbsGt = true
is_absolute _ = false

-- what an operator asks of the order of its sides
abbrev pub accepts : Op → Ordering → Bool
accepts Lt = is_lt
accepts Le = is_le
accepts Eq = is_eq
accepts Ge = is_ge
accepts Gt = is_gt
accepts Ne = is_ne
accepts AbsLt = is_lt
accepts AbsLe = is_le
accepts AbsEq = is_eq
accepts AbsGe = is_ge
accepts AbsGt = is_gt

-- the default family of a value's kind; for NULL, which has none, any
abbrev pub kind_family : Value → Family
kind_family Null = Integer
kind_family (Int n) = Integer
kind_family (Flag b) = BoolOps
kind_family (String t) = TextOps

-- the family by whose order an operator compares
abbrev pub comparing_family : Op → Value → Family
comparing_family op v = cond (is_absolute op) IntAbs (kind_family v)

-- the truth of a comparison: Unknown where a side is NULL, else by the order of the operator's family (SQL)
abbrev pub truth_of_op : Op → Value → Value → Truth
truth_of_op op Null _ = Unknown
truth_of_op op _ Null = Unknown
truth_of_op op a b = truth_of (accepts op (value_order (comparing_family op a) a b))

-- an operator is defined on a value's kind: one by absolute value on whole numbers alone (own)
abbrev pub HasOp : Op → Value → Type 0
HasOp op Null = Unit {0}
HasOp op (Int n) = Unit {0}
HasOp op _ = is_absolute op ≡ false

-- two values are of one kind, or one is NULL
abbrev pub IsSameKind : Value → Value → Type 0
IsSameKind Null _ = Unit {0}
IsSameKind _ Null = Unit {0}
IsSameKind (Int a) (Int b) = Unit {0}
IsSameKind (Flag a) (Flag b) = Unit {0}
IsSameKind (String a) (String b) = Unit {0}
IsSameKind _ _ = ⊥

-- two values may stand at the sides of an operator
abbrev pub AreComparable : Op → Value → Value → Type 0
AreComparable op a b = HasOp op a × HasOp op b × IsSameKind a b

-- the operator that is true exactly where another is false; `|=|` has none (PostgreSQL manual, CREATE OPERATOR, NEGATOR)
abbrev pub negator_of : Op → Option Op
negator_of Lt = Some Ge
negator_of Le = Some Gt
negator_of Eq = Some Ne
negator_of Ge = Some Lt
negator_of Gt = Some Le
negator_of Ne = Some Eq
negator_of AbsLt = Some AbsGe
negator_of AbsLe = Some AbsGt
negator_of AbsEq = None
negator_of AbsGe = Some AbsLt
negator_of AbsGt = Some AbsLe

-- the operator with the same truth when the sides change places (PostgreSQL manual, CREATE OPERATOR, COMMUTATOR)
abbrev pub commutator_of : Op → Op
commutator_of Lt = Gt
commutator_of Le = Ge
commutator_of Eq = Eq
commutator_of Ge = Le
commutator_of Gt = Lt
commutator_of Ne = Ne
commutator_of AbsLt = AbsGt
commutator_of AbsLe = AbsGe
commutator_of AbsEq = AbsEq
commutator_of AbsGe = AbsLe
commutator_of AbsGt = AbsLt
