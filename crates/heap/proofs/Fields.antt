-- The value of a field, by what its text is.
use Rattle.std.proofs.Common.{◌≡◌, ◌≢◌, ℕ, ◌≤◌, Bool, true, false, cond, List, [], ◌∷◌, length, map, suc, refl, sym, ap, subst, ◌∙◌, arith, Option, Some, None, Ok, Err, Result}
use Rattle.std.specs.Prelude.{ℤ, codes}
use Rattle.std.specs.Char.{to_ascii_lowercase}
use Rattle.std.specs.Str.{bytes_eq}
use Rattle.std.proofs.lemmas.Bool.{and_parts}
use Rattle.std.proofs.lemmas.Bool.Decides.{nat_tests}
use Rattle.std.proofs.lemmas.Slice.Eq.{bytes_eq-Decides}
use Rattle.civil.specs.declared.unread.Unread.{Unread}
use Rattle.civil.specs.declared.unread.Unread.TheVariants.{Form as NoForm, Range as OutOfRange}
use Rattle.civil.specs.Forms.{has_form, is_uuid_text, stands_for}
use Rattle.civil.specs.Numerics.{numeric_value}
use Rattle.civil.specs.Times.{date_value, timestamp_value, timestamptz_value}
use Rattle.pg_base.specs.declared.limits.TheConstants.{MOST_TEXT_BYTES}
use Rattle.pg_base.specs.declared.numbers.ColNo.{ColNo}
use Rattle.pg_value.specs.Fields.{counted, field_value, flagged, ranged, flag_of, number_of, word_of}
use Rattle.pg_value.specs.Types.{IsOfType, in_range}
use Rattle.pg_value.specs.declared.columns.Column.{Column}
use Rattle.pg_value.specs.declared.fields.FieldFault.{FieldFault}
use Rattle.pg_value.specs.declared.fields.FieldFault.TheVariants.{Range, Invalid}
use Rattle.pg_value.specs.declared.value.SqlType.{SqlType}
use Rattle.pg_value.specs.declared.value.SqlType.TheVariants.{Int2, Int4, Int8, Text as TextType, Bool as BoolType, Uuid as UuidType, Date as DateType, Timestamp as TimestampType, TimestampTz as TimestampTzType, Numeric as NumericType}
use Rattle.pg_value.specs.declared.value.Value.{Value}
use Rattle.pg_value.specs.declared.value.Value.TheVariants.{Null, Int, Bool as Flag, Text as String}
use Rattle.heap.specs.declared.fault.CopyFault.TheVariants.{IsNull, TooLong}
use Rattle.heap.specs.Loading.{field, is_long, at_field}
use Rattle.heap.specs.Stored.{IsColumnValue}
use Rattle.pg_value.specs.Fields.{null_text}

module _ (rec : ℕ) (col : ColNo) (column : Column) (text : List ℕ) where
  pub field_null : bytes_eq text null_text ≡ true → field rec col column text ≡ cond column.not_null (Err (IsNull rec col)) (Ok Null)
  unfolding field
  field_null h = ap (λ (b : Bool). cond b (cond column.not_null (Err (IsNull rec col)) (Ok Null)) (cond (is_long column.typed text) (Err (TooLong rec col)) (at_field rec col (field_value column.typed text)))) h

  pub field_other : bytes_eq text null_text ≡ false → field rec col column text ≡ cond (is_long column.typed text) (Err (TooLong rec col)) (at_field rec col (field_value column.typed text))
  unfolding field
  field_other h = ap (λ (b : Bool). cond b (cond column.not_null (Err (IsNull rec col)) (Ok Null)) (cond (is_long column.typed text) (Err (TooLong rec col)) (at_field rec col (field_value column.typed text)))) h

  pub field_long : bytes_eq text null_text ≡ false → is_long column.typed text ≡ true → field rec col column text ≡ Err (TooLong rec col)
  field_long h long = field_other h ∙ ap (λ (b : Bool). cond b (Err (TooLong rec col)) (at_field rec col (field_value column.typed text))) long

  pub field_read : bytes_eq text null_text ≡ false → is_long column.typed text ≡ false → (r : Result Value FieldFault) → field_value column.typed text ≡ r → field rec col column text ≡ at_field rec col r
  field_read h short r e = field_other h ∙ ap (λ (b : Bool). cond b (Err (TooLong rec col)) (at_field rec col (field_value column.typed text))) short ∙ ap (at_field rec col) e

-- no text spells NULL
none-tested : (n : ℤ) (b : Bool) → ◌≡◌ {A = Result Value FieldFault} (cond b (Ok (Int n)) (Err Range)) (Ok Null) → ⊥
none-tested n false h = cc
none-tested n true h = cc

none-numbered : (t : SqlType) (o : Option ℤ) → ranged t o ≡ Ok Null → ⊥
none-numbered t None h = cc
none-numbered t (Some n) h = none-tested n (in_range t n) h

none-flagged : (o : Option Bool) → flagged o ≡ Ok Null → ⊥
none-flagged None h = cc
none-flagged (Some b) h = cc

none-counted : (r : Result ℤ Unread) → counted r ≡ Ok Null → ⊥
none-counted (Ok n) h = cc
none-counted (Err NoForm) h = cc
none-counted (Err OutOfRange) h = cc

none-lowered : (b : Bool) (bs : List ℕ) → ◌≡◌ {A = Result Value FieldFault} (cond b (Ok (String bs)) (Err Invalid)) (Ok Null) → ⊥
none-lowered false bs h = cc
none-lowered true bs h = cc

none-read : (t : SqlType) (text : List ℕ) → field_value t text ≡ Ok Null → ⊥
none-read TextType text h = cc
none-read UuidType text h = none-lowered (is_uuid_text text) (map to_ascii_lowercase text) h
none-read BoolType text h = none-flagged (flag_of (word_of text)) h
none-read DateType text h = none-counted (date_value (word_of text)) h
none-read TimestampType text h = none-counted (timestamp_value (word_of text)) h
none-read TimestampTzType text h = none-counted (timestamptz_value (word_of text)) h
none-read (NumericType digits scale) text h = none-counted (numeric_value digits scale (word_of text)) h
none-read Int2 text h = none-numbered Int2 (number_of (word_of text)) h
none-read Int4 text h = none-numbered Int4 (number_of (word_of text)) h
none-read Int8 text h = none-numbered Int8 (number_of (word_of text)) h

short_text : (text : List ℕ) → is_long TextType text ≡ false → length text ≤ MOST_TEXT_BYTES
short_text text h = grind (arith, nat_tests)

not_null_text : (text : List ℕ) → bytes_eq text null_text ≡ false → text ≢ null_text
not_null_text text h e = let yes' = (bytes_eq-Decides text null_text).1 e in cc

-- a text of a form is as long as the form
form-length : (fs cs : List ℕ) → has_form fs cs ≡ true → length cs ≡ length fs
unfolding has_form
form-length [] [] h = refl
form-length [] (c ∷ cs) h = cc
form-length (f ∷ fs) [] h = cc
form-length (f ∷ fs) (c ∷ cs) h = ap suc (form-length fs cs (and_parts (stands_for f c) (has_form fs cs) h).1)

uuid-length : (bs : List ℕ) → is_uuid_text bs ≡ true → length bs ≡ 36
uuid-length bs h = form-length (codes "HHHHHHHH-HHHH-HHHH-HHHH-HHHHHHHHHHHH") bs h

-- a text that a column may hold keeps its limit and is not that of NULL
abbrev IsShort : List ℕ → Type 0
IsShort bs = (length bs ≤ MOST_TEXT_BYTES) × (bs ≢ null_text)

short-read : (t : SqlType) (text bs : List ℕ) → bytes_eq text null_text ≡ false → is_long t text ≡ false → field_value t text ≡ Ok (String bs) → IsOfType t (String bs) → IsShort bs
short-read TextType text bs plain short is typed =
    let same : text ≡ bs = cc in
    subst IsShort same (short_text text short, not_null_text text plain)
short-read UuidType text bs plain short is typed =
    let long = uuid-length bs typed.0 in
    (omega (arith, long), λ e. let two : length bs ≡ 2 = ap length e in absurd (omega (arith, long, two)))
short-read t text bs plain short is typed = absurd typed

pub read_lawful : (column : Column) (text : List ℕ) (v : Value) → bytes_eq text null_text ≡ false → is_long column.typed text ≡ false → field_value column.typed text ≡ Ok v → IsOfType column.typed v → IsColumnValue column v
read_lawful column text Null plain short is typed = absurd (none-read column.typed text is)
read_lawful column text (Int n) plain short is typed = typed
read_lawful column text (Flag b) plain short is typed = typed
read_lawful column text (String bs) plain short is typed =
    let brief = short-read column.typed text bs plain short is typed in
    (typed, brief.0, brief.1)
