-- A well typed condition is defined under each binding that fits the types and binds its columns.
use Rattle.std.proofs.Common.{◌≡◌, refl, Bool, true, false, IsTrue, ℤ, pos, negsuc, arith}
use Rattle.std.proofs.lemmas.Bool.{and_parts, ltb-true, true≢false}
use Rattle.pg_value.specs.declared.operators.Family.{Family}
use Rattle.pg_value.specs.declared.operators.Family.TheVariants.{Integer, IntAbs, Text as TextOps, Bool as BoolOps, Uuid as UuidOps, Date as DateOps, Timestamp as TimestampOps, TimestampTz as TimestampTzOps, Numeric as NumericOps}
use Rattle.pg_value.specs.declared.operators.Op.{Op}
use Rattle.pg_value.specs.declared.value.SqlType.{SqlType}
use Rattle.pg_value.specs.declared.value.SqlType.TheVariants.{Int2, Int4, Int8, Text as TextType, Bool as BoolType, Uuid as UuidType, Date as DateType, Timestamp as TimestampType, TimestampTz as TimestampTzType, Numeric as NumericType}
use Rattle.pg_value.specs.declared.value.Value.{Value}
use Rattle.pg_value.specs.declared.value.Value.TheVariants.{Null, Int, Bool as Flag, Text as String}
use Rattle.pg_value.specs.work.Order.{IsOfFamily}
use Rattle.pg_value.specs.Truths.{AreComparable, HasOp, IsSameKind}
use Rattle.pg_value.specs.Types.{in_range, is_within, IsOfType}
use Rattle.pg_expr.specs.declared.operand.ColRef.{ColRef}
use Rattle.pg_expr.specs.declared.operand.Operand.{Operand}
use Rattle.pg_expr.specs.declared.operand.Operand.TheVariants.{Col, Lit}
use Rattle.pg_expr.specs.Cond.{Cond, compare, is_null, is_not_null, bool_col, const, all_of, any_of, negation, Conds, no_conds, cond_and}
use Rattle.pg_expr.specs.Columns.{passes_column, each_column, each_column_of}
use Rattle.pg_expr.specs.Truths.{value_of}
use Rattle.pg_expr.specs.Typed.{some_value, IsTyped, AreTyped}
use Rattle.pg_expr.specs.work.Typed.{FitsTypes, HasTruthOf}
use Rattle.pg_expr.specs.Pushed.{pushed}
use Rattle.pg_expr.proofs.PushedLaws.{IsDefined, AreDefined, kinds_turned, pushed-truth}

-- a value is NULL or of the kind of another
abbrev pub IsLike : Value → Value → Type 0
IsLike s Null = Unit {0}
IsLike (Int x) (Int y) = Unit {0}
IsLike (Flag x) (Flag y) = Unit {0}
IsLike (String x) (String y) = Unit {0}
IsLike s v = ⊥

like_itself : (v : Value) → IsLike v v
like_itself Null = tt
like_itself (Int x) = tt
like_itself (Flag x) = tt
like_itself (String x) = tt

none_within : (n : ℤ) → is_within 0 n ≡ true → ⊥
none_within (pos n) h = omega (arith, ltb-true n 0 h)
none_within (negsuc m) h = omega (arith, ltb-true m 0 h)

-- the values of a type are whole numbers
abbrev pub has_numbers : SqlType → Bool
has_numbers TextType = false
has_numbers BoolType = false
has_numbers UuidType = false
has_numbers _ = true

pub no_number : (t : SqlType) (n : ℤ) → has_numbers t ≡ false → in_range t n ≡ true → ⊥
no_number TextType n none h = none_within n h
no_number BoolType n none h = none_within n h
no_number UuidType n none h = none_within n h
no_number t n none h = absurd (true≢false none)

pub like_type : (t : SqlType) (v : Value) → IsOfType t v → IsLike (some_value t) v
like_type t Null h = tt
like_type Int2 (Int x) h = tt
like_type Int4 (Int x) h = tt
like_type Int8 (Int x) h = tt
like_type TextType (Int x) h = absurd (no_number TextType x refl h)
like_type BoolType (Int x) h = absurd (no_number BoolType x refl h)
like_type UuidType (Int x) h = absurd (no_number UuidType x refl h)
like_type DateType (Int x) h = tt
like_type TimestampType (Int x) h = tt
like_type TimestampTzType (Int x) h = tt
like_type (NumericType digits scale) (Int x) h = tt
like_type TextType (String x) h = tt
like_type UuidType (String x) h = tt
like_type BoolType (Flag x) h = tt
like_type t v h = absurd h

-- what may stand beside some value of a type is of its kind
pub like_kind : (t : SqlType) (v : Value) → IsSameKind (some_value t) v → IsLike (some_value t) v
like_kind t Null h = tt
like_kind Int2 (Int x) h = tt
like_kind Int4 (Int x) h = tt
like_kind Int8 (Int x) h = tt
like_kind DateType (Int x) h = tt
like_kind TimestampType (Int x) h = tt
like_kind TimestampTzType (Int x) h = tt
like_kind (NumericType digits scale) (Int x) h = tt
like_kind TextType (String x) h = tt
like_kind UuidType (String x) h = tt
like_kind BoolType (Flag x) h = tt
like_kind t v h = absurd h

-- a family that orders a value orders those of its kind
pub family_like : (f : Family) (s v : Value) → IsLike s v → IsOfFamily f s → IsOfFamily f v
family_like f s Null like h = tt
family_like Integer (Int x) (Int y) like h = tt
family_like IntAbs (Int x) (Int y) like h = tt
family_like TextOps (Int x) (Int y) like h = absurd h
family_like BoolOps (Int x) (Int y) like h = absurd h
family_like Integer (Flag x) (Flag y) like h = absurd h
family_like IntAbs (Flag x) (Flag y) like h = absurd h
family_like TextOps (Flag x) (Flag y) like h = absurd h
family_like BoolOps (Flag x) (Flag y) like h = tt
family_like Integer (String x) (String y) like h = absurd h
family_like IntAbs (String x) (String y) like h = absurd h
family_like TextOps (String x) (String y) like h = tt
family_like BoolOps (String x) (String y) like h = absurd h
family_like UuidOps (Int x) (Int y) like h = absurd h
family_like UuidOps (Flag x) (Flag y) like h = absurd h
family_like UuidOps (String x) (String y) like h = tt
family_like DateOps (Int x) (Int y) like h = tt
family_like DateOps (Flag x) (Flag y) like h = absurd h
family_like DateOps (String x) (String y) like h = absurd h
family_like TimestampOps (Int x) (Int y) like h = tt
family_like TimestampOps (Flag x) (Flag y) like h = absurd h
family_like TimestampOps (String x) (String y) like h = absurd h
family_like TimestampTzOps (Int x) (Int y) like h = tt
family_like TimestampTzOps (Flag x) (Flag y) like h = absurd h
family_like TimestampTzOps (String x) (String y) like h = absurd h
family_like (NumericOps scale) (Int x) (Int y) like h = tt
family_like (NumericOps scale) (Flag x) (Flag y) like h = absurd h
family_like (NumericOps scale) (String x) (String y) like h = absurd h
family_like f s v like h = absurd like

has_op-like : (op : Op) (s v : Value) → IsLike s v → HasOp op s → HasOp op v
has_op-like op s Null like h = tt
has_op-like op s (Int y) like h = tt
has_op-like op (Flag x) (Flag y) like h = h
has_op-like op (String x) (String y) like h = h
has_op-like op s v like h = absurd like

pub same_kind-like : (s v w : Value) → IsLike s v → IsSameKind s w → IsSameKind v w
same_kind-like s Null w like h = tt
same_kind-like (Int x) (Int y) Null like h = tt
same_kind-like (Int x) (Int y) (Int z) like h = tt
same_kind-like (Int x) (Int y) (Flag z) like h = h
same_kind-like (Int x) (Int y) (String z) like h = h
same_kind-like (Flag x) (Flag y) Null like h = tt
same_kind-like (Flag x) (Flag y) (Int z) like h = h
same_kind-like (Flag x) (Flag y) (Flag z) like h = tt
same_kind-like (Flag x) (Flag y) (String z) like h = h
same_kind-like (String x) (String y) Null like h = tt
same_kind-like (String x) (String y) (Int z) like h = h
same_kind-like (String x) (String y) (Flag z) like h = h
same_kind-like (String x) (String y) (String z) like h = tt
same_kind-like s v w like h = absurd like

comparable-like : (op : Op) (s u v w : Value) → IsLike s v → IsLike u w → AreComparable op s u → AreComparable op v w
comparable-like op s u v w left right h = (
  has_op-like op s v left h.0,
  has_op-like op u w right h.1,
  kinds_turned w v (same_kind-like u w v right (kinds_turned v u (same_kind-like s v u left h.2))),
)

module _ (t : ColRef → SqlType) (binds : ColRef → Bool) (b : ColRef → Value) (fits : FitsTypes t binds b) where
  like_side : (o : Operand) → IsTrue (passes_column binds o) → IsLike (value_of (λ c. some_value (t c)) o) (value_of b o)
  like_side (Col c) bound = like_type (t c) (b c) (fits c bound)
  like_side (Lit v) bound = like_itself v

  mutual
    pub typed-defined : (c : Cond) → IsTyped t c → IsTrue (each_column binds c) → IsDefined b c
    typed-defined (compare op l r) h bound =
        let sides = and_parts (passes_column binds l) (passes_column binds r) bound in
        comparable-like op (value_of (λ c. some_value (t c)) l) (value_of (λ c. some_value (t c)) r) (value_of b l) (value_of b r) (like_side l sides.0) (like_side r sides.1) h.comparable
    typed-defined (is_null c) h bound = tt
    typed-defined (is_not_null c) h bound = tt
    typed-defined (bool_col c) h bound = tt
    typed-defined (const u) h bound = tt
    typed-defined (all_of cs) h bound = typed-all_defined cs h bound
    typed-defined (any_of cs) h bound = typed-all_defined cs h bound
    typed-defined (negation c) h bound = typed-defined c h bound

    typed-all_defined : (cs : Conds) → AreTyped t cs → IsTrue (each_column_of binds cs) → AreDefined b cs
    typed-all_defined no_conds h bound = tt
    typed-all_defined (cond_and c cs) h bound =
        let parts = and_parts (each_column binds c) (each_column_of binds cs) bound in
        (typed-defined c h.0 parts.0, typed-all_defined cs h.1 parts.1)

-- the pushed form has the truth of the condition
pub pushed-same_truth : (c : Cond) → HasTruthOf c (pushed false c)
pushed-same_truth c t binds b typed bound fits = pushed-truth b false c (typed-defined t binds b fits c typed bound)
