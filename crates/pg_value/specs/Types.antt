-- Which values a type has.
use Rattle.std.specs.Prelude.{◌≡◌, ℕ, ◌^◌, Bool, true, false, List, map, ℤ, pos, negsuc, nat_lt}
use Rattle.std.specs.Char.{to_ascii_lowercase}
use Rattle.civil.specs.Days.{is_date_number}
use Rattle.civil.specs.Forms.{is_uuid_text}
use Rattle.civil.specs.Numerics.{is_numeric_number}
use Rattle.civil.specs.Times.{is_instant}
use Rattle.pg_value.specs.declared.value.SqlType.{SqlType}
use Rattle.pg_value.specs.declared.value.SqlType.TheVariants.{Int2, Int4, Int8, Text as TextType, Bool as BoolType, Uuid as UuidType, Date as DateType, Timestamp as TimestampType, TimestampTz as TimestampTzType, Numeric as NumericType}
use Rattle.pg_value.specs.declared.value.Value.{Value}
use Rattle.pg_value.specs.declared.value.Value.TheVariants.{Null, Int, Bool as Flag, Text as String}

-- the numbers of an integer type are those from minus its limit on that are below its limit (PostgreSQL manual, Numeric Types)
abbrev pub limit : SqlType → ℕ
limit Int2 = 2 ^ 15
limit Int4 = 2 ^ 31
limit Int8 = 2 ^ 63
limit _ = 0

-- a whole number is from minus a limit on, and below it; `negsuc m` is -(m + 1)
abbrev pub is_within : ℕ → ℤ → Bool
is_within most (pos n) = nat_lt n most
is_within most (negsuc m) = nat_lt m most

-- the whole numbers that are values of a type: those of an integer type, the days of a date, the microseconds of a timestamp, with time zone or without, and the numbers of a numeric type times 10 to its scale; no other type has any
abbrev pub in_range : SqlType → ℤ → Bool
in_range DateType n = is_date_number n
in_range TimestampType n = is_instant n
in_range TimestampTzType n = is_instant n
in_range (NumericType digits scale) n = is_numeric_number digits scale n
in_range t n = is_within (limit t) n

-- a text is a uuid in the canonical form, in small letters
abbrev pub IsUuid : List ℕ → Type 0
IsUuid bs = (is_uuid_text bs ≡ true) × (map to_ascii_lowercase bs ≡ bs)

-- a value is NULL or one of a type's
abbrev pub IsOfType : SqlType → Value → Type 0
IsOfType t Null = Unit {0}
IsOfType t (Int n) = in_range t n ≡ true
IsOfType BoolType (Flag b) = Unit {0}
IsOfType TextType (String bs) = Unit {0}
IsOfType UuidType (String bs) = IsUuid bs
IsOfType _ _ = ⊥

-- a number without a point may be a value of the type: an integer or a numeric one
abbrev pub takes_whole : SqlType → Bool
takes_whole Int2 = true
takes_whole Int4 = true
takes_whole Int8 = true
takes_whole (NumericType digits scale) = true
takes_whole _ = false
