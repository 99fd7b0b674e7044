-- Values that have a text by their types. Own.
use Rattle.std.specs.Prelude.{◌≡◌, ◌≤◌, List, ℤ, true}
use Rattle.std.specs.List.{AllZip}
use Rattle.civil.specs.Days.{is_date_number}
use Rattle.civil.specs.Times.{is_instant}
use Rattle.pg_value.specs.declared.value.SqlType.{SqlType}
use Rattle.pg_value.specs.declared.value.SqlType.TheVariants.{Date as DateType, Timestamp as TimestampType, TimestampTz as TimestampTzType, Numeric as NumericType}
use Rattle.pg_value.specs.declared.value.Value.{Value}
use Rattle.pg_value.specs.declared.value.Value.TheVariants.{Int}

-- a whole number can be printed as a value of a type: a date or a timestamp is in range, and a numeric has at most 18 digits behind the point
abbrev pub IsPrintableNumber : SqlType → ℤ → Type 0
IsPrintableNumber DateType n = is_date_number n ≡ true
IsPrintableNumber TimestampType n = is_instant n ≡ true
IsPrintableNumber TimestampTzType n = is_instant n ≡ true
IsPrintableNumber (NumericType digits scale) n = scale ≤ 18
IsPrintableNumber t n = Unit {0}

-- a value can be printed as one of a type
abbrev pub IsPrintable : SqlType → Value → Type 0
IsPrintable t (Int n) = IsPrintableNumber t n
IsPrintable t v = Unit {0}

-- as many values as types, each of which can be printed as one of the type at its place
abbrev pub ArePrintable : List SqlType → List Value → Type 0
ArePrintable types values = AllZip IsPrintable types values
