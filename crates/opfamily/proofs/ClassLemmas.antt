-- What the table says of each class, and of each family but that of absolute values.
use Rattle.std.proofs.Common.{◌≡◌, ◌&&◌, ℕ, true, refl}
use Rattle.std.specs.Prelude.{nat_eq}
use Rattle.std.proofs.Math.Bool.{or-false}
use Rattle.pg_value.specs.declared.operators.Family.{Family}
use Rattle.pg_value.specs.declared.operators.Family.TheVariants as families
use Rattle.pg_value.specs.declared.operators.Op.{Op}
use Rattle.pg_value.specs.declared.value.SqlType.{SqlType}
use Rattle.pg_value.specs.declared.value.SqlType.TheVariants as types
use Rattle.opfamily.specs.declared.classes.Method.{Method}
use Rattle.opfamily.specs.declared.classes.Method.TheVariants.{Btree, Hash}
use Rattle.opfamily.specs.declared.classes.OpClass.{OpClass}
use Rattle.opfamily.specs.declared.classes.OpClass.TheVariants.{Int2Ops, Int4Ops, Int8Ops, TextOps, BoolOps, Int2AbsOps, Int4AbsOps, Int8AbsOps, UuidOps, DateOps, TimestampOps, TimestampTzOps, NumericOps}
use Rattle.opfamily.specs.Answers.{accepted, number_in, takes}
use Rattle.opfamily.specs.work.Answers.{is_for, is_own}

-- a class accepts a type where it has the method and the type is its own
pub accepted-parts : (c : OpClass) (m : Method) (t : SqlType) → accepted c m t ≡ (is_for c m && is_own c t)
accepted-parts Int2Ops Btree t = refl
accepted-parts Int2Ops Hash t = refl
accepted-parts Int4Ops Btree t = refl
accepted-parts Int4Ops Hash t = refl
accepted-parts Int8Ops Btree t = refl
accepted-parts Int8Ops Hash t = refl
accepted-parts TextOps Btree t = refl
accepted-parts TextOps Hash t = refl
accepted-parts BoolOps Btree t = refl
accepted-parts BoolOps Hash t = refl
accepted-parts Int2AbsOps Btree t = refl
accepted-parts Int2AbsOps Hash t = refl
accepted-parts Int4AbsOps Btree t = refl
accepted-parts Int4AbsOps Hash t = refl
accepted-parts Int8AbsOps Btree t = refl
accepted-parts Int8AbsOps Hash t = refl
accepted-parts UuidOps Btree t = refl
accepted-parts UuidOps Hash t = refl
accepted-parts DateOps Btree t = refl
accepted-parts DateOps Hash t = refl
accepted-parts TimestampOps Btree t = refl
accepted-parts TimestampOps Hash t = refl
accepted-parts TimestampTzOps Btree t = refl
accepted-parts TimestampTzOps Hash t = refl
accepted-parts (NumericOps scale) Btree t = refl
accepted-parts (NumericOps scale) Hash t = refl

-- the strategies of each family but that of absolute values are those of the integers
pub plain-number : (f : Family) (m : Method) (op : Op) → (f ≡ families.IntAbs → ⊥) → number_in f m op ≡ number_in families.Integer m op
plain-number families.Integer Btree op other = refl
plain-number families.Integer Hash op other = refl
plain-number families.IntAbs m op other = absurd (other refl)
plain-number families.Text Btree op other = refl
plain-number families.Text Hash op other = refl
plain-number families.Bool Btree op other = refl
plain-number families.Bool Hash op other = refl
plain-number families.Uuid Btree op other = refl
plain-number families.Uuid Hash op other = refl
plain-number families.Date Btree op other = refl
plain-number families.Date Hash op other = refl
plain-number families.Timestamp Btree op other = refl
plain-number families.Timestamp Hash op other = refl
plain-number families.TimestampTz Btree op other = refl
plain-number families.TimestampTz Hash op other = refl
plain-number (families.Numeric scale) Btree op other = refl
plain-number (families.Numeric scale) Hash op other = refl

-- the numerics that a family of numerics takes are those of its scale, and so are those of the class
pub numeric-takes : (s digits scale : ℕ) → takes (families.Numeric s) (types.Numeric digits scale) ≡ nat_eq s scale
numeric-takes s digits scale = or-false (nat_eq s scale)

pub numeric-own : (s : ℕ) (t : SqlType) → is_own (NumericOps s) t ≡ takes (families.Numeric s) t
numeric-own s types.Int2 = refl
numeric-own s types.Int4 = refl
numeric-own s types.Int8 = refl
numeric-own s types.Text = refl
numeric-own s types.Bool = refl
numeric-own s types.Uuid = refl
numeric-own s types.Date = refl
numeric-own s types.Timestamp = refl
numeric-own s types.TimestampTz = refl
numeric-own s (types.Numeric digits scale) = refl

-- indexes of a method have each class, but that hash has none that compares by absolute value
pub method-plain : (c : OpClass) (m : Method) → (c ≡ Int2AbsOps → ⊥) → (c ≡ Int4AbsOps → ⊥) → (c ≡ Int8AbsOps → ⊥) → is_for c m ≡ true
method-plain Int2Ops Btree a b d = refl
method-plain Int2Ops Hash a b d = refl
method-plain Int4Ops Btree a b d = refl
method-plain Int4Ops Hash a b d = refl
method-plain Int8Ops Btree a b d = refl
method-plain Int8Ops Hash a b d = refl
method-plain TextOps Btree a b d = refl
method-plain TextOps Hash a b d = refl
method-plain BoolOps Btree a b d = refl
method-plain BoolOps Hash a b d = refl
method-plain UuidOps Btree a b d = refl
method-plain UuidOps Hash a b d = refl
method-plain DateOps Btree a b d = refl
method-plain DateOps Hash a b d = refl
method-plain TimestampOps Btree a b d = refl
method-plain TimestampOps Hash a b d = refl
method-plain TimestampTzOps Btree a b d = refl
method-plain TimestampTzOps Hash a b d = refl
method-plain (NumericOps scale) Btree a b d = refl
method-plain (NumericOps scale) Hash a b d = refl
method-plain Int2AbsOps m a b d = absurd (a refl)
method-plain Int4AbsOps m a b d = absurd (b refl)
method-plain Int8AbsOps m a b d = absurd (d refl)
