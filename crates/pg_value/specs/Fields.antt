-- The value that the text of a field spells (PostgreSQL manual, COPY, Numeric Types, Date/Time Types, Boolean Type and UUID Type; decimal digits alone, own).
use Rattle.std.specs.Prelude.{ℕ, ◌-◌, Bool, true, false, cond, ◌&&◌, ◌||◌, List, length, take, drop, map, codes, ℤ, pos, neg_ℤ, Option, None, Some, Ok, Err, nat_lt, nat_le}
use Rattle.std.specs.declared.result.Result.{Result}
use Rattle.std.specs.Char.{is_ascii_whitespace, is_ascii_digit, to_ascii_lowercase}
use Rattle.std.specs.List.{prefix_len, suffix_len, list_all}
use Rattle.std.specs.Str.{bytes_eq}
use Rattle.std.specs.Str.Parse.{signed_digits_value, without_leading_sign}
use Rattle.civil.specs.declared.unread.Unread.{Unread}
use Rattle.civil.specs.declared.unread.Unread.TheVariants.{Form as NoForm, Range as OutOfRange}
use Rattle.civil.specs.Forms.{is_uuid_text}
use Rattle.civil.specs.Numerics.{numeric_value, whole_numeric_of}
use Rattle.civil.specs.Times.{date_value, timestamp_value, timestamptz_value}
use Rattle.pg_value.specs.declared.fields.FieldFault.{FieldFault}
use Rattle.pg_value.specs.declared.fields.FieldFault.TheVariants.{Range, Invalid}
use Rattle.pg_value.specs.declared.value.SqlType.{SqlType}
use Rattle.pg_value.specs.declared.value.SqlType.TheVariants.{Text as TextType, Bool as BoolType, Uuid as UuidType, Date as DateType, Timestamp as TimestampType, TimestampTz as TimestampTzType, Numeric as NumericType}
use Rattle.pg_value.specs.declared.value.Value.{Value}
use Rattle.pg_value.specs.declared.value.Value.TheVariants.{Int, Bool as Flag, Text as String}
use Rattle.pg_value.specs.Types.{in_range}

-- the text of NULL in COPY data, `\N`
abbrev pub null_text : List ℕ
null_text = codes "\\N"

-- the word of a text: what is left without the white space at its ends
abbrev pub from_word : List ℕ → List ℕ
from_word text = drop (prefix_len is_ascii_whitespace text) text

unfoldable pub word_of : List ℕ → List ℕ
word_of text = take (length (from_word text) - suffix_len is_ascii_whitespace (from_word text)) (from_word text)

-- one decimal digit or more, and nothing else
abbrev pub is_numeral : List ℕ → Bool
is_numeral ds = nat_lt 0 (length ds) && list_all is_ascii_digit ds

-- the whole number that a word spells, or none
unfoldable pub number_of : List ℕ → Option ℤ
number_of word = cond (is_numeral (without_leading_sign word)) (Some (signed_digits_value 10 word)) None

-- a word is the beginning of another one, of so many letters at least
unfoldable pub is_start : ℕ → List ℕ → List ℕ → Bool
is_start least full word = nat_le least (length word) && bytes_eq (take (length word) full) word

-- `1`, or a beginning of `true`, `yes` or `on` that is neither empty nor `o`; and the same of `0`, `false`, `no` and `off`
unfoldable pub is_true_word : List ℕ → Bool
is_true_word word = is_start 1 (codes "1") word || (is_start 1 (codes "true") word || (is_start 1 (codes "yes") word || is_start 2 (codes "on") word))

unfoldable pub is_false_word : List ℕ → Bool
is_false_word word = is_start 1 (codes "0") word || (is_start 1 (codes "false") word || (is_start 1 (codes "no") word || is_start 2 (codes "off") word))

-- the truth value that a word spells in capital or small letters, or none
unfoldable pub flag_of : List ℕ → Option Bool
flag_of word = let small = map to_ascii_lowercase word in cond (is_true_word small) (Some true) (cond (is_false_word small) (Some false) None)

-- the whole number of this magnitude, with a minus or without
abbrev pub signed : Bool → ℕ → ℤ
signed negative n = cond negative (neg_ℤ (pos n)) (pos n)

-- a whole number as a value of an integer type: `Invalid` where there is none, `Range` where the type does not have it
abbrev pub ranged : SqlType → Option ℤ → Result Value FieldFault
ranged t None = Err Invalid
ranged t (Some n) = cond (in_range t n) (Ok (Int n)) (Err Range)

-- a truth value that a word spells, as a boolean; `Invalid` where it spells none
abbrev pub flagged : Option Bool → Result Value FieldFault
flagged None = Err Invalid
flagged (Some b) = Ok (Flag b)

-- what was read of a date, a timestamp or a numeric, as a value: `Invalid` where the word has not the form, `Range` where it has and the type does not have what it spells
abbrev pub counted : Result ℤ Unread → Result Value FieldFault
counted (Ok n) = Ok (Int n)
counted (Err NoForm) = Err Invalid
counted (Err OutOfRange) = Err Range

-- a uuid: the text in small letters; `Invalid` where it has not the canonical form
abbrev pub uuid_of : List ℕ → Result Value FieldFault
uuid_of text = cond (is_uuid_text text) (Ok (String (map to_ascii_lowercase text))) (Err Invalid)

-- the value of a type that a text spells, or why it spells none: a text's bytes as they are, a uuid's in small letters, else what its word spells
abbrev pub field_value : SqlType → List ℕ → Result Value FieldFault
field_value TextType text = Ok (String text)
field_value UuidType text = uuid_of text
field_value BoolType text = flagged (flag_of (word_of text))
field_value DateType text = counted (date_value (word_of text))
field_value TimestampType text = counted (timestamp_value (word_of text))
field_value TimestampTzType text = counted (timestamptz_value (word_of text))
field_value (NumericType digits scale) text = counted (numeric_value digits scale (word_of text))
field_value t text = ranged t (number_of (word_of text))

-- a whole number as a numeric; `Range` where the type does not have it
abbrev pub as_numeric : Option ℤ → Result Value FieldFault
as_numeric None = Err Range
as_numeric (Some n) = Ok (Int n)

-- a number without a point as a value of an integer or numeric type: of a numeric type it is 10 to the scale times as much
abbrev pub whole_value : SqlType → ℤ → Result Value FieldFault
whole_value (NumericType digits scale) n = as_numeric (whole_numeric_of digits scale n)
whole_value t n = ranged t (Some n)
