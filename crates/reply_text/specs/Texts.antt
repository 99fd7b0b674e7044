-- The texts of printed rows and of their number (PostgreSQL manual, COPY, and psql; the forms are own).
use Rattle.std.specs.Prelude.{ℕ, ◌==◌, List, [], ◌∷◌, ◌++◌, codes, ℤ, if◌then◌else◌}
use Rattle.std.specs.Fmt.{decimal, signed_decimal}
use Rattle.civil.specs.Shown.{date_text_of, numeric_text_of, timestamp_text_of, timestamptz_text_of}
use Rattle.csv.specs.Writing.{row_text, default_writer}
use Rattle.pg_value.specs.Fields.{null_text}
use Rattle.pg_value.specs.declared.value.SqlType.{SqlType}
use Rattle.pg_value.specs.declared.value.SqlType.TheVariants.{Date as DateType, Timestamp as TimestampType, TimestampTz as TimestampTzType, Numeric as NumericType}
use Rattle.pg_value.specs.declared.value.Value.{Value}
use Rattle.pg_value.specs.declared.value.Value.TheVariants.{Null, Int, Bool as Flag, Text as String}

-- a whole number as a value of a type: a day, a time or a number with digits behind the point, as text; else decimal digits after a minus or no sign (PostgreSQL manual, Date/Time Output, style ISO, zone UTC)
abbrev pub number_text : SqlType → ℤ → List ℕ
number_text DateType n = date_text_of n
number_text TimestampType n = timestamp_text_of n
number_text TimestampTzType n = timestamptz_text_of n
number_text (NumericType digits scale) n = numeric_text_of scale n
number_text t n = signed_decimal n

-- a value of a type as a field: NULL's own text, a whole number as one of the type, `t` or `f`, a text's bytes (PostgreSQL manual, COPY; own)
abbrev pub field_text : SqlType → Value → List ℕ
field_text t Null = null_text
field_text t (Int n) = number_text t n
field_text t (Flag b) = if b then codes "t" else codes "f"
field_text t (String bytes) = bytes

-- values as fields, each by the type at its place
abbrev pub field_texts : List SqlType → List Value → List (List ℕ)
field_texts (t ∷ ts) (v ∷ vs) = field_text t v ∷ field_texts ts vs
field_texts _ _ = []

-- a row: the record of comma-separated values of these fields, ended by LF (RFC 4180 with LF; the default writer of csv)
abbrev pub row_line : List SqlType → List Value → List ℕ
row_line types values = row_text default_writer (field_texts types values)

-- the number of rows, ended by LF (psql)
abbrev pub count_line : ℕ → List ℕ
count_line n = if n == 1 then codes "(1 row)\n" else codes "(" ++ (decimal n ++ codes " rows)\n")

-- the line of a block that is not what it is given for: a certificate or a plan, with the first reason (own)
abbrev pub invalid_line : List ℕ → List ℕ
invalid_line reason = (codes "invalid: " ++ reason) ++ codes "\n"
