-- The order of values in a family of operators, on whole numbers and byte lists.
use Rattle.std.specs.Prelude.{ℕ, Bool, false, List, [], ℤ, pos, unsigned_abs}
use Rattle.std.specs.Ordering.{on, nat_cmp, int_cmp, bool_cmp}
use Rattle.std.specs.Cmp.Lexicographic.{slice_cmp}
use Rattle.std.specs.declared.cmp.Ordering.{Ordering}
use Rattle.pg_value.specs.declared.operators.Family.{Family}
use Rattle.pg_value.specs.declared.operators.Family.TheVariants.{Integer, IntAbs, Text as TextOps, Bool as BoolOps, Uuid as UuidOps, Date as DateOps, Timestamp as TimestampOps, TimestampTz as TimestampTzOps, Numeric as NumericOps}
use Rattle.pg_value.specs.declared.value.Value.{Value}
use Rattle.pg_value.specs.declared.value.Value.TheVariants.{Int, Bool as Flag, Text as String}

-- what a value holds, read as a whole number, a truth value or a byte list (own)
abbrev pub number : Value → ℤ
number (Int n) = n
number _ = pos 0

-- a truth value; false of a value of another kind
abbrev pub flag : Value → Bool
flag (Flag b) = b
flag _ = false

-- the bytes of a text or a uuid; none of a value of another kind
abbrev pub bytes : Value → List ℕ
bytes (String t) = t
bytes _ = []

-- the absolute value as a natural number, so that of -2^63 is 2^63 (own)
abbrev pub magnitude : Value → ℕ
magnitude v = unsigned_abs (number v)

-- how a family orders two values that are not NULL: whole numbers by value or by absolute value, texts and uuids byte by byte, false before true, and dates, timestamps and numerics of one scale as the whole numbers that stand for them (PostgreSQL manual, Operator Classes and Operator Families; int_abs_ops is own)
abbrev pub value_order : Family → Value → Value → Ordering
value_order Integer = on number int_cmp
value_order IntAbs = on magnitude nat_cmp
value_order TextOps = on bytes (slice_cmp nat_cmp)
value_order BoolOps = on flag bool_cmp
value_order UuidOps = on bytes (slice_cmp nat_cmp)
value_order DateOps = on number int_cmp
value_order TimestampOps = on number int_cmp
value_order TimestampTzOps = on number int_cmp
value_order (NumericOps scale) = on number int_cmp
