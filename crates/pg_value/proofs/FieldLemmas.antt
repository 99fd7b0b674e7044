-- What a field spells is a value of its type, and never that memory ran out.
use Rattle.std.proofs.Common.{◌≡◌, ℕ, Bool, true, false, cond, ◌||◌, List, [], ◌∷◌, map, refl, sym, ap, ap₂, subst, ◌∙◌, arith, Option, Some, None, Result, Ok, Err}
use Rattle.std.specs.Prelude.{ℤ, pos, ◌*ℤ◌, ◌^◌, IfOk, IfErr, codes, nat_eq}
use Rattle.std.specs.Char.{is_ascii_hexdigit, to_ascii_lowercase}
use Rattle.std.specs.List.{list_all}
use Rattle.std.proofs.lemmas.Bool.{and_parts, and_from}
use Rattle.std.proofs.lemmas.Bool.Decides.{nat_tests, Decides-eqb}
use Rattle.std.proofs.lemmas.Str.Ascii.{lowercase-lowercase}
use Rattle.civil.specs.declared.unread.Unread.{Unread}
use Rattle.civil.specs.declared.unread.Unread.TheVariants.{Form as NoForm, Range as OutOfRange}
use Rattle.civil.specs.Forms.{has_form, is_uuid_text, stands_for}
use Rattle.civil.specs.Numerics.{is_numeric_number, numeric_value}
use Rattle.civil.specs.Times.{date_value, timestamp_value, timestamptz_value}
use Rattle.civil.proofs.ReadLemmas.{date-typed, numeric-typed, timestamp-typed, timestamptz-typed}
use Rattle.pg_value.specs.declared.fields.FieldFault.{FieldFault}
use Rattle.pg_value.specs.declared.fields.FieldFault.TheVariants.{Range, Invalid, Memory}
use Rattle.pg_value.specs.declared.value.SqlType.{SqlType}
use Rattle.pg_value.specs.declared.value.SqlType.TheVariants.{Int2, Int4, Int8, Text as TextType, Bool as BoolType, Uuid as UuidType, Date as DateType, Timestamp as TimestampType, TimestampTz as TimestampTzType, Numeric as NumericType}
use Rattle.pg_value.specs.declared.value.Value.{Value}
use Rattle.pg_value.specs.declared.value.Value.TheVariants.{Int, Bool as Flag, Text as String}
use Rattle.pg_value.specs.Fields.{counted, field_value, flag_of, flagged, number_of, ranged, word_of, as_numeric, whole_value}
use Rattle.pg_value.specs.work.Fields.{IsUnlessMemory}
use Rattle.pg_value.specs.Types.{in_range, IsOfType, IsUuid}
use Rattle.pg_value.specs.work.Types.{has_texts}

-- a uuid in small letters is one
hex-lowered : (c : ℕ) → is_ascii_hexdigit c ≡ true → is_ascii_hexdigit (to_ascii_lowercase c) ≡ true
hex-lowered c h = grind (arith, nat_tests)

-- a character of a uuid's form: a hexadecimal digit, or a hyphen for itself
abbrev is_of_uuid : ℕ → Bool
is_of_uuid f = nat_eq f 72 || nat_eq f 45

stands-lowered : (f c : ℕ) (digit hyphen : Bool) → nat_eq f 72 ≡ digit → nat_eq f 45 ≡ hyphen → digit || hyphen ≡ true → stands_for f c ≡ true → stands_for f (to_ascii_lowercase c) ≡ true
stands-lowered f c true hyphen d e is h =
    let same : f ≡ 72 = (Decides-eqb f 72).0 d in
    subst (λ (x : ℕ). stands_for x (to_ascii_lowercase c) ≡ true) (sym same) (hex-lowered c (subst (λ (x : ℕ). stands_for x c ≡ true) same h))
stands-lowered f c false true d e is h =
    let same : f ≡ 45 = (Decides-eqb f 45).0 e in
    let hyphen : 45 ≡ c = (Decides-eqb 45 c).0 (subst (λ (x : ℕ). stands_for x c ≡ true) same h) in
    subst (λ (x : ℕ). stands_for x (to_ascii_lowercase c) ≡ true) (sym same) (subst (λ (x : ℕ). stands_for 45 (to_ascii_lowercase x) ≡ true) hyphen refl)
stands-lowered f c false false d e is h = absurd (cc (is))

form-lowered : (fs cs : List ℕ) → list_all is_of_uuid fs ≡ true → has_form fs cs ≡ true → has_form fs (map to_ascii_lowercase cs) ≡ true
unfolding has_form
form-lowered [] [] all h = refl
form-lowered [] (c ∷ cs) all h = h
form-lowered (f ∷ fs) [] all h = h
form-lowered (f ∷ fs) (c ∷ cs) all h =
    let each = and_parts (is_of_uuid f) (list_all is_of_uuid fs) all in
    let parts = and_parts (stands_for f c) (has_form fs cs) h in
    and_from (stands_for f (to_ascii_lowercase c)) (has_form fs (map to_ascii_lowercase cs))
    (stands-lowered f c (nat_eq f 72) (nat_eq f 45) refl refl each.0 parts.0) (form-lowered fs cs each.1 parts.1)

lowered-twice : (cs : List ℕ) → map to_ascii_lowercase (map to_ascii_lowercase cs) ≡ map to_ascii_lowercase cs
lowered-twice [] = refl
lowered-twice (c ∷ cs) = ap₂ (λ (x : ℕ) (xs : List ℕ). x ∷ xs) (lowercase-lowercase c) (lowered-twice cs)

uuid-lowered : (text : List ℕ) → is_uuid_text text ≡ true → IsUuid (map to_ascii_lowercase text)
uuid-lowered text h = (form-lowered (codes "HHHHHHHH-HHHH-HHHH-HHHH-HHHHHHHHHHHH") text refl h, lowered-twice text)

-- a value that is spelled is of its type
uuid-by : (b : Bool) (text : List ℕ) (v : Value) → is_uuid_text text ≡ b → cond b (Ok (String (map to_ascii_lowercase text))) (Err Invalid) ≡ Ok v → IsOfType UuidType v
uuid-by true text v e is = let same : String (map to_ascii_lowercase text) ≡ v = cc in subst (IsOfType UuidType) same (uuid-lowered text e)
uuid-by false text v e is = absurd (cc (is))

flag-typed : (o : Option Bool) (v : Value) → flagged o ≡ Ok v → IsOfType BoolType v
flag-typed None v is = absurd (cc (is))
flag-typed (Some b) v is = let same : Flag b ≡ v = cc in subst (IsOfType BoolType) same tt

range-typed : (t : SqlType) (n : ℤ) (b : Bool) (v : Value) → in_range t n ≡ b → cond b (Ok (Int n)) (Err Range) ≡ Ok v → IsOfType t v
range-typed t n true v e is = let same : Int n ≡ v = cc in subst (IsOfType t) same e
range-typed t n false v e is = absurd (cc (is))

number-typed : (t : SqlType) (o : Option ℤ) (v : Value) → ranged t o ≡ Ok v → IsOfType t v
number-typed t None v is = absurd (cc (is))
number-typed t (Some n) v is = range-typed t n (in_range t n) v refl is

count-typed : (t : SqlType) (r : Result ℤ Unread) (v : Value) → ((n : ℤ) → r ≡ Ok n → in_range t n ≡ true) → counted r ≡ Ok v → IsOfType t v
count-typed t (Ok n) v each is = let same : Int n ≡ v = cc in subst (IsOfType t) same (each n refl)
count-typed t (Err NoForm) v each is = absurd (cc (is))
count-typed t (Err OutOfRange) v each is = absurd (cc (is))

pub field-typed : (t : SqlType) (text : List ℕ) (v : Value) → field_value t text ≡ Ok v → IsOfType t v
field-typed TextType text v is = let same : String text ≡ v = cc in subst (IsOfType TextType) same tt
field-typed UuidType text v is = uuid-by (is_uuid_text text) text v refl is
field-typed BoolType text v is = flag-typed (flag_of (word_of text)) v is
field-typed DateType text v is = count-typed DateType (date_value (word_of text)) v (date-typed (word_of text)) is
field-typed TimestampType text v is = count-typed TimestampType (timestamp_value (word_of text)) v (timestamp-typed (word_of text)) is
field-typed TimestampTzType text v is = count-typed TimestampTzType (timestamptz_value (word_of text)) v (timestamptz-typed (word_of text)) is
field-typed (NumericType digits scale) text v is = count-typed (NumericType digits scale) (numeric_value digits scale (word_of text)) v (numeric-typed digits scale (word_of text)) is
field-typed Int2 text v is = number-typed Int2 (number_of (word_of text)) v is
field-typed Int4 text v is = number-typed Int4 (number_of (word_of text)) v is
field-typed Int8 text v is = number-typed Int8 (number_of (word_of text)) v is

-- the value of a number without a point is of its type
numeric-by : (digits scale : ℕ) (n : ℤ) (b : Bool) (v : Value) → is_numeric_number digits scale n ≡ b → as_numeric (cond b (Some n) None) ≡ Ok v → IsOfType (NumericType digits scale) v
numeric-by digits scale n true v e is = let same : Int n ≡ v = cc in subst (IsOfType (NumericType digits scale)) same e
numeric-by digits scale n false v e is = absurd (cc (is))

pub whole-typed : (t : SqlType) (n : ℤ) (v : Value) → whole_value t n ≡ Ok v → IsOfType t v
whole-typed (NumericType digits scale) n v is = numeric-by digits scale (n *ℤ pos (10 ^ scale)) (is_numeric_number digits scale (n *ℤ pos (10 ^ scale))) v refl is
whole-typed t n v is = number-typed t (Some n) v is

-- no text spells that memory ran out
count-read : (r : Result ℤ Unread) → counted r ≡ Err Memory → ⊥
count-read (Ok n) is = cc
count-read (Err NoForm) is = cc
count-read (Err OutOfRange) is = cc

range-read : (b : Bool) (n : ℤ) → ◌≡◌ {A = Result Value FieldFault} (cond b (Ok (Int n)) (Err Range)) (Err Memory) → ⊥
range-read true n is = cc
range-read false n is = cc

number-read : (t : SqlType) (o : Option ℤ) → ranged t o ≡ Err Memory → ⊥
number-read t None is = cc
number-read t (Some n) is = range-read (in_range t n) n is

flag-read : (o : Option Bool) → flagged o ≡ Err Memory → ⊥
flag-read None is = cc
flag-read (Some b) is = cc

uuid-read : (b : Bool) (bs : List ℕ) → ◌≡◌ {A = Result Value FieldFault} (cond b (Ok (String bs)) (Err Invalid)) (Err Memory) → ⊥
uuid-read true bs is = cc
uuid-read false bs is = cc

pub field-read : (t : SqlType) (text : List ℕ) → field_value t text ≡ Err Memory → ⊥
field-read TextType text is = cc
field-read UuidType text is = uuid-read (is_uuid_text text) (map to_ascii_lowercase text) is
field-read BoolType text is = flag-read (flag_of (word_of text)) is
field-read DateType text is = count-read (date_value (word_of text)) is
field-read TimestampType text is = count-read (timestamp_value (word_of text)) is
field-read TimestampTzType text is = count-read (timestamptz_value (word_of text)) is
field-read (NumericType digits scale) text is = count-read (numeric_value digits scale (word_of text)) is
field-read Int2 text is = number-read Int2 (number_of (word_of text)) is
field-read Int4 text is = number-read Int4 (number_of (word_of text)) is
field-read Int8 text is = number-read Int8 (number_of (word_of text)) is

-- the result of a call that gives the value of a field
module _ (t : SqlType) (text : List ℕ) where
  pub answer-typed : (r : Result Value FieldFault) → r ≡ field_value t text → IfOk r (IsOfType t)
  answer-typed (Ok v) is = field-typed t text v (sym is)
  answer-typed (Err e) is = tt

  pub answer-unless : (r : Result Value FieldFault) → r ≡ field_value t text → IsUnlessMemory (field_value t text) r
  answer-unless (Ok v) is = sym is
  answer-unless (Err Range) is = sym is
  answer-unless (Err Invalid) is = sym is
  answer-unless (Err Memory) is = tt

  pub answer-memory : (r : Result Value FieldFault) → r ≡ field_value t text → IfErr r (λ e. e ≡ Memory → has_texts t ≡ true)
  answer-memory (Ok v) is = tt
  answer-memory (Err e) is = λ want. absurd (field-read t text (sym (is ∙ refl) ∙ ap Err want))

-- a call for the word of a text
pub timestamp-word : (t : SqlType) (text word : List ℕ) (r : Result ℤ Unread) (v : Result Value FieldFault) → t ≡ TimestampType → r ≡ timestamp_value word → v ≡ counted r → word ≡ word_of text → v ≡ field_value t text
timestamp-word t text word r v typed read value is =
    value ∙ ap counted read ∙ ap (λ (w : List ℕ). counted (timestamp_value w)) is ∙ sym (ap (λ (u : SqlType). field_value u text) typed)

pub timestamptz-word : (t : SqlType) (text word : List ℕ) (r : Result ℤ Unread) (v : Result Value FieldFault) → t ≡ TimestampTzType → r ≡ timestamptz_value word → v ≡ counted r → word ≡ word_of text → v ≡ field_value t text
timestamptz-word t text word r v typed read value is =
    value ∙ ap counted read ∙ ap (λ (w : List ℕ). counted (timestamptz_value w)) is ∙ sym (ap (λ (u : SqlType). field_value u text) typed)
