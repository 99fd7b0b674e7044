-- Families, and the types that they take.
use Rattle.std.proofs.Common.{◌≡◌, ℕ, ◌+◌, refl, Bool, true, false, ap, sym, subst, ◌∙◌, Option, Some, arith}
use Rattle.std.proofs.lemmas.Bool.{and_parts, eq-eqb, eqb-true, true≢false}
use Rattle.std.proofs.lemmas.Option.{same_Some}
use Rattle.opfamily.specs.pg_value_operators_Family.{Family}
use Rattle.opfamily.specs.pg_value_operators_Family_TheVariants as families
use Rattle.opfamily.specs.pg_value_value_SqlType.{SqlType}
use Rattle.opfamily.specs.pg_value_value_SqlType_TheVariants.{Int2, Int4, Int8, Text as TextType, Bool as BoolType, Uuid as UuidType, Date as DateType, Timestamp as TimestampType, TimestampTz as TimestampTzType, Numeric as NumericType}
use Rattle.opfamily.specs.pg_value_work_Order.{IsOfFamily}
use Rattle.opfamily.specs.Answers.{default_family_of, accepted, family_of, takes}
use Rattle.opfamily.specs.work.Answers.{is_for, is_own}
use Rattle.opfamily.specs.declared.classes.Method.{Method}
use Rattle.opfamily.specs.declared.classes.OpClass.{OpClass}
use Rattle.opfamily.specs.declared.classes.OpClass.TheVariants.{Int2Ops, Int4Ops, Int8Ops, TextOps, BoolOps, Int2AbsOps, Int4AbsOps, Int8AbsOps, UuidOps, DateOps, TimestampOps, TimestampTzOps, NumericOps}
use Rattle.opfamily.specs.KeyOrder.{family_or_integer}
use Rattle.opfamily.proofs.ClassLemmas.{accepted-parts, numeric-takes, numeric-own}
use Rattle.pg_expr.specs.Typed.{some_value, type_kind}
use Rattle.eq_classes.specs.Classes.{is_abs}

-- the kind of the types that a family takes
abbrev pub family_kind : Family → ℕ
family_kind families.Integer = 0
family_kind families.IntAbs = 0
family_kind families.Text = 1
family_kind families.Bool = 2
family_kind families.Uuid = 3
family_kind families.Date = 4
family_kind families.Timestamp = 5
family_kind families.TimestampTz = 6
family_kind (families.Numeric scale) = 7 + scale

-- a family takes the types of its kind, and no other
pub takes_kind : (f : Family) (t : SqlType) → takes f t ≡ true → type_kind t ≡ family_kind f
takes_kind families.Integer Int2 h = refl
takes_kind families.Integer Int4 h = refl
takes_kind families.Integer Int8 h = refl
takes_kind families.IntAbs Int2 h = refl
takes_kind families.IntAbs Int4 h = refl
takes_kind families.IntAbs Int8 h = refl
takes_kind families.Text TextType h = refl
takes_kind families.Bool BoolType h = refl
takes_kind families.Uuid UuidType h = refl
takes_kind families.Date DateType h = refl
takes_kind families.Timestamp TimestampType h = refl
takes_kind families.TimestampTz TimestampTzType h = refl
takes_kind (families.Numeric s) (NumericType digits scale) h = ap (λ n. 7 + n) (sym (eqb-true s scale (sym (numeric-takes s digits scale) ∙ h)))
takes_kind f t h = absurd (true≢false (sym h))

pub kind_takes : (f : Family) (t : SqlType) → type_kind t ≡ family_kind f → takes f t ≡ true
kind_takes families.Integer Int2 h = refl
kind_takes families.Integer Int4 h = refl
kind_takes families.Integer Int8 h = refl
kind_takes families.IntAbs Int2 h = refl
kind_takes families.IntAbs Int4 h = refl
kind_takes families.IntAbs Int8 h = refl
kind_takes families.Text TextType h = refl
kind_takes families.Bool BoolType h = refl
kind_takes families.Uuid UuidType h = refl
kind_takes families.Date DateType h = refl
kind_takes families.Timestamp TimestampType h = refl
kind_takes families.TimestampTz TimestampTzType h = refl
kind_takes (families.Numeric s) (NumericType digits scale) h = numeric-takes s digits scale ∙ eq-eqb s scale (omega (arith, h))
kind_takes f t h = absurd (omega (arith, h))

-- a family takes a type where it takes one of its kind
pub takes_alike : (f : Family) (t u : SqlType) → type_kind t ≡ type_kind u → takes f t ≡ true → takes f u ≡ true
takes_alike f t u same h = kind_takes f u (sym same ∙ takes_kind f t h)

-- a family that takes a type is its default one, but that of absolute values
pub takes_default : (f : Family) (t : SqlType) → takes f t ≡ true → (f ≡ families.IntAbs → ⊥) → default_family_of t ≡ Some f
takes_default families.IntAbs t h other = absurd (other refl)
takes_default families.Integer Int2 h other = refl
takes_default families.Integer Int4 h other = refl
takes_default families.Integer Int8 h other = refl
takes_default families.Text TextType h other = refl
takes_default families.Bool BoolType h other = refl
takes_default families.Uuid UuidType h other = refl
takes_default families.Date DateType h other = refl
takes_default families.Timestamp TimestampType h other = refl
takes_default families.TimestampTz TimestampTzType h other = refl
takes_default (families.Numeric s) (NumericType digits scale) h other = ap (λ n. Some (families.Numeric n)) (sym (eqb-true s scale (sym (numeric-takes s digits scale) ∙ h)))
takes_default f t h other = absurd (true≢false (sym h))

-- each type has a default family
pub default_some : (t : SqlType) → (f : Family) × (default_family_of t ≡ Some f)
default_some Int2 = (families.Integer, refl)
default_some Int4 = (families.Integer, refl)
default_some Int8 = (families.Integer, refl)
default_some TextType = (families.Text, refl)
default_some BoolType = (families.Bool, refl)
default_some UuidType = (families.Uuid, refl)
default_some DateType = (families.Date, refl)
default_some TimestampType = (families.Timestamp, refl)
default_some TimestampTzType = (families.TimestampTz, refl)
default_some (NumericType digits scale) = (families.Numeric scale, refl)

-- which takes it
pub default_takes : (t : SqlType) (f : Family) → default_family_of t ≡ Some f → takes f t ≡ true
default_takes Int2 f e = subst (λ (g : Family). takes g Int2 ≡ true) (same_Some families.Integer f e) refl
default_takes Int4 f e = subst (λ (g : Family). takes g Int4 ≡ true) (same_Some families.Integer f e) refl
default_takes Int8 f e = subst (λ (g : Family). takes g Int8 ≡ true) (same_Some families.Integer f e) refl
default_takes TextType f e = subst (λ (g : Family). takes g TextType ≡ true) (same_Some families.Text f e) refl
default_takes BoolType f e = subst (λ (g : Family). takes g BoolType ≡ true) (same_Some families.Bool f e) refl
default_takes UuidType f e = subst (λ (g : Family). takes g UuidType ≡ true) (same_Some families.Uuid f e) refl
default_takes DateType f e = subst (λ (g : Family). takes g DateType ≡ true) (same_Some families.Date f e) refl
default_takes TimestampType f e = subst (λ (g : Family). takes g TimestampType ≡ true) (same_Some families.Timestamp f e) refl
default_takes TimestampTzType f e = subst (λ (g : Family). takes g TimestampTzType ≡ true) (same_Some families.TimestampTz f e) refl
default_takes (NumericType digits scale) f e =
    subst (λ (g : Family). takes g (NumericType digits scale) ≡ true) (same_Some (families.Numeric scale) f e) (kind_takes (families.Numeric scale) (NumericType digits scale) refl)

-- the family of absolute values is no default
pub no_default_abs : (t : SqlType) → default_family_of t ≡ Some families.IntAbs → ⊥
no_default_abs Int2 h = cc
no_default_abs Int4 h = cc
no_default_abs Int8 h = cc
no_default_abs TextType h = cc
no_default_abs BoolType h = cc
no_default_abs UuidType h = cc
no_default_abs DateType h = cc
no_default_abs TimestampType h = cc
no_default_abs TimestampTzType h = cc
no_default_abs (NumericType digits scale) h = cc

-- there is one family at most
pub same_family : (f g : Family) {o : Option Family} → o ≡ Some f → o ≡ Some g → f ≡ g
same_family f g e h = cc

pub abs_is : (f : Family) → is_abs f ≡ true → f ≡ families.IntAbs
abs_is families.IntAbs e = refl
abs_is f e = absurd (true≢false (sym e))

pub not_abs : (f : Family) → is_abs f ≡ false → f ≡ families.IntAbs → ⊥
not_abs f e is = true≢false (sym (ap is_abs is) ∙ e)

-- of the families that take a type at most one is another than that of absolute values
pub one_family : (t : SqlType) (f g : Family) → takes f t ≡ true → takes g t ≡ true → is_abs f ≡ is_abs g → f ≡ g
one_family t f g h k same = by (is_abs f) refl
  where
    by : (a : Bool) → is_abs f ≡ a → f ≡ g
    by true e = abs_is f e ∙ sym (abs_is g (sym same ∙ e))
    by false e = same_family f g (takes_default f t h (not_abs f e)) (takes_default g t k (not_abs g (sym same ∙ e)))

-- a family orders the values of the types that it takes
pub takes_fits : (f : Family) (t : SqlType) → takes f t ≡ true → IsOfFamily f (some_value t)
takes_fits families.Integer Int2 h = tt
takes_fits families.Integer Int4 h = tt
takes_fits families.Integer Int8 h = tt
takes_fits families.IntAbs Int2 h = tt
takes_fits families.IntAbs Int4 h = tt
takes_fits families.IntAbs Int8 h = tt
takes_fits families.Text TextType h = tt
takes_fits families.Bool BoolType h = tt
takes_fits families.Uuid UuidType h = tt
takes_fits families.Date DateType h = tt
takes_fits families.Timestamp TimestampType h = tt
takes_fits families.TimestampTz TimestampTzType h = tt
takes_fits (families.Numeric s) (NumericType digits scale) h = tt
takes_fits f t h = absurd (true≢false (sym h))

-- the family of a class takes its own types
own_takes : (c : OpClass) (t : SqlType) → is_own c t ≡ true → takes (family_or_integer (family_of c)) t ≡ true
own_takes Int2Ops Int2 h = refl
own_takes Int4Ops Int4 h = refl
own_takes Int8Ops Int8 h = refl
own_takes TextOps TextType h = refl
own_takes BoolOps BoolType h = refl
own_takes Int2AbsOps Int2 h = refl
own_takes Int4AbsOps Int4 h = refl
own_takes Int8AbsOps Int8 h = refl
own_takes UuidOps UuidType h = refl
own_takes DateOps DateType h = refl
own_takes TimestampOps TimestampType h = refl
own_takes TimestampTzOps TimestampTzType h = refl
own_takes (NumericOps s) t h = sym (numeric-own s t) ∙ h
own_takes c t h = absurd (true≢false (sym h))

-- and those that it accepts for a method
pub class_takes : (c : OpClass) (m : Method) (t : SqlType) → accepted c m t ≡ true → takes (family_or_integer (family_of c)) t ≡ true
class_takes c m t h = own_takes c t (and_parts (is_for c m) (is_own c t) (sym (accepted-parts c m t) ∙ h)).1

-- a class accepts types whose values its family orders
pub class_fits : (c : OpClass) (m : Method) (t : SqlType) → accepted c m t ≡ true → IsOfFamily (family_or_integer (family_of c)) (some_value t)
class_fits c m t h = takes_fits (family_or_integer (family_of c)) t (class_takes c m t h)
