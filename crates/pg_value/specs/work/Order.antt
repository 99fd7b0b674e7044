-- Working words beside those of `Order`.
use Rattle.std.specs.Prelude.{Option, None, Some}
use Rattle.std.specs.declared.cmp.Ordering.{Ordering}
use Rattle.pg_value.specs.declared.operators.Family.{Family}
use Rattle.pg_value.specs.declared.operators.Family.TheVariants.{Integer, IntAbs, Text as TextOps, Bool as BoolOps, Uuid as UuidOps, Date as DateOps, Timestamp as TimestampOps, TimestampTz as TimestampTzOps, Numeric as NumericOps}
use Rattle.pg_value.specs.declared.value.Value.{Value}
use Rattle.pg_value.specs.declared.value.Value.TheVariants.{Null, Int, Bool as Flag, Text as String}
use Rattle.pg_value.specs.Order.{value_order}

-- how a family orders two values; none where one is NULL
abbrev pub compared : Family → Value → Value → Option Ordering
compared f Null _ = None
compared f _ Null = None
compared f a b = Some (value_order f a b)

-- a value is NULL or of the kind that a family orders
abbrev pub IsOfFamily : Family → Value → Type 0
IsOfFamily _ Null = Unit {0}
IsOfFamily Integer (Int n) = Unit {0}
IsOfFamily IntAbs (Int n) = Unit {0}
IsOfFamily TextOps (String t) = Unit {0}
IsOfFamily BoolOps (Flag b) = Unit {0}
IsOfFamily UuidOps (String t) = Unit {0}
IsOfFamily DateOps (Int n) = Unit {0}
IsOfFamily TimestampOps (Int n) = Unit {0}
IsOfFamily TimestampTzOps (Int n) = Unit {0}
IsOfFamily (NumericOps scale) (Int n) = Unit {0}
IsOfFamily _ _ = ⊥
