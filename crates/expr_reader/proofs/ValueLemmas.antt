-- The values that literals give are of their types, and one that is given for a column is not NULL.
use Rattle.std.proofs.Common.{◌≡◌, ◌≢◌, ℕ, ℤ, Bool, true, false, cond, List, Option, Some, None, Result, Ok, Err, refl, subst}
use Rattle.std.specs.Char.{to_ascii_lowercase}
use Rattle.std.specs.Prelude.{map}
use Rattle.pg_base.specs.declared.faults.Code.TheVariants.{S10}
use Rattle.civil.specs.declared.unread.Unread.{Unread}
use Rattle.civil.specs.declared.unread.Unread.TheVariants.{Form as NoForm, Range as OutOfRange}
use Rattle.civil.specs.Forms.{is_uuid_text}
use Rattle.civil.specs.Numerics.{numeric_value, whole_numeric_of}
use Rattle.civil.specs.Times.{date_value, timestamp_value, timestamptz_value}
use Rattle.pg_value.specs.declared.fields.FieldFault.{FieldFault}
use Rattle.pg_value.specs.declared.fields.FieldFault.TheVariants.{Invalid, Range, Memory}
use Rattle.pg_value.specs.declared.value.SqlType.{SqlType}
use Rattle.pg_value.specs.declared.value.SqlType.TheVariants as types
use Rattle.pg_value.specs.declared.value.Value.{Value}
use Rattle.pg_value.specs.declared.value.Value.TheVariants as values
use Rattle.pg_value.specs.Fields.{as_numeric, counted, field_value, flag_of, flagged, number_of, ranged, whole_value, word_of}
use Rattle.pg_value.specs.Types.{in_range, takes_whole, IsOfType}
use Rattle.pg_value.proofs.FieldLemmas.{field-typed, whole-typed}
use Rattle.sql_lex.specs.declared.tokens.Token.{Token}
use Rattle.sql_grammar.specs.Faults.{fault_at}
use Rattle.sql_grammar.specs.Syntax.{Lit, number, negative, quoted, constant, yes, no, unknown}
use Rattle.expr_reader.specs.Literals.{value_or_fault, number_type, flag_as, literal_value, named_value, typed_value, written}
use Rattle.expr_reader.specs.Conditions.{of_literal, type_beside, type_or}

-- a value that is given is one that is read
pub value-by : (m : Result Value FieldFault) (token : Token) (v : Value) → value_or_fault token m ≡ Ok v → m ≡ Ok v
value-by (Ok w) token v is = cc (is)
value-by (Err Range) token v is = absurd (cc (is))
value-by (Err Invalid) token v is = absurd (cc (is))
value-by (Err Memory) token v is = absurd (cc (is))

-- what is read is not NULL
int-some : (b : Bool) (n : ℤ) (v : Value) → cond b (Ok (values.Int n)) (Err Range) ≡ Ok v → v ≢ values.Null
int-some true n v is null = absurd (cc (is, null))
int-some false n v is null = absurd (cc (is))

ranged-some : (t : SqlType) (o : Option ℤ) (v : Value) → ranged t o ≡ Ok v → v ≢ values.Null
ranged-some t None v is null = absurd (cc (is))
ranged-some t (Some n) v is null = int-some (in_range t n) n v is null

numeric-some : (o : Option ℤ) (v : Value) → as_numeric o ≡ Ok v → v ≢ values.Null
numeric-some None v is null = absurd (cc (is))
numeric-some (Some n) v is null = absurd (cc (is, null))

flag-some : (o : Option Bool) (v : Value) → flagged o ≡ Ok v → v ≢ values.Null
flag-some None v is null = absurd (cc (is))
flag-some (Some b) v is null = absurd (cc (is, null))

count-some : (r : Result ℤ Unread) (v : Value) → counted r ≡ Ok v → v ≢ values.Null
count-some (Ok n) v is null = absurd (cc (is, null))
count-some (Err NoForm) v is null = absurd (cc (is))
count-some (Err OutOfRange) v is null = absurd (cc (is))

uuid-some : (b : Bool) (bs : List ℕ) (v : Value) → cond b (Ok (values.Text bs)) (Err Invalid) ≡ Ok v → v ≢ values.Null
uuid-some true bs v is null = absurd (cc (is, null))
uuid-some false bs v is null = absurd (cc (is))

whole-some : (t : SqlType) (n : ℤ) (v : Value) → whole_value t n ≡ Ok v → v ≢ values.Null
whole-some (types.Numeric digits scale) n v is null = numeric-some (whole_numeric_of digits scale n) v is null
whole-some t n v is null = ranged-some t (Some n) v is null

field-some : (t : SqlType) (text : List ℕ) (v : Value) → field_value t text ≡ Ok v → v ≢ values.Null
field-some types.Text text v is null = absurd (cc (is, null))
field-some types.Uuid text v is null = uuid-some (is_uuid_text text) (map to_ascii_lowercase text) v is null
field-some types.Bool text v is null = flag-some (flag_of (word_of text)) v is null
field-some types.Date text v is null = count-some (date_value (word_of text)) v is null
field-some types.Timestamp text v is null = count-some (timestamp_value (word_of text)) v is null
field-some types.TimestampTz text v is null = count-some (timestamptz_value (word_of text)) v is null
field-some (types.Numeric digits scale) text v is null = count-some (numeric_value digits scale (word_of text)) v is null
field-some types.Int2 text v is null = ranged-some types.Int2 (number_of (word_of text)) v is null
field-some types.Int4 text v is null = ranged-some types.Int4 (number_of (word_of text)) v is null
field-some types.Int8 text v is null = ranged-some types.Int8 (number_of (word_of text)) v is null

-- a value is of a type, and not NULL
abbrev IsGiven : SqlType → Value → Type 0
IsGiven t v = (v ≢ values.Null) × IsOfType t v

whole-given : (t : SqlType) (n : ℤ) (v : Value) → whole_value t n ≡ Ok v → IsGiven t v
whole-given t n v is = (whole-some t n v is, whole-typed t n v is)

number-given : (b : Bool) (t : SqlType) (token : Token) (n : ℤ) (v : Value) → cond b (value_or_fault token (whole_value t n)) (Err (fault_at S10 token)) ≡ Ok v → IsGiven t v
number-given true t token n v is = whole-given t n v (value-by (whole_value t n) token v is)
number-given false t token n v is = absurd (cc (is))

flag-given : (t : SqlType) (token : Token) (b : Bool) (v : Value) → flag_as t token b ≡ Ok v → IsGiven t v
flag-given types.Bool token b v is = let same : values.Bool b ≡ v = cc (is) in subst (IsGiven types.Bool) same ((λ null. absurd (cc (null))), tt)
flag-given t token b v is = absurd (cc (is))

-- a literal gives a value of the column's type, and not NULL
pub typed-given : (t : SqlType) (l : Lit) (v : Value) → typed_value t l ≡ Ok v → IsGiven t v
typed-given t (number n) v is = number-given (takes_whole t) t n.token (written false n) v is
typed-given t (negative minus n) v is = number-given (takes_whole t) t minus (written true n) v is
typed-given t (quoted q) v is = let read = value-by (field_value t q.value) q.token v is in (field-some t q.value v read, field-typed t q.value v read)
typed-given t (constant yes k) v is = flag-given t k true v is
typed-given t (constant no k) v is = flag-given t k false v is
typed-given t (constant unknown k) v is = absurd (cc (is))

-- a text behind a type's name is a value of the type
pub named-typed : (token : Token) (t : SqlType) (o : Option SqlType) (text : List ℕ) (v : Value) → named_value token o text ≡ Ok v → IsOfType (type_or t o) v
named-typed token t None text v is = absurd (cc (is))
named-typed token t (Some own) text v is = field-typed own text v (value-by (field_value own text) token v is)

-- a literal in a condition has a value of the type that it has beside the other side
number-again : (t : SqlType) → number_type (number_type t) ≡ number_type t
number-again (types.Numeric digits scale) = refl
number-again t = refl

number-typed : (t : SqlType) (token : Token) (n : ℤ) (v : Value) → value_or_fault token (whole_value (number_type (number_type t)) n) ≡ Ok v → IsOfType (number_type t) v
number-typed t token n v is =
    subst (λ u. IsOfType u v) (number-again t) (whole-typed (number_type (number_type t)) n v (value-by (whole_value (number_type (number_type t)) n) token v is))

pub literal-typed : (l : Lit) (other : Option SqlType) (v : Value) → literal_value (type_beside (of_literal l) other) l ≡ Ok v → IsOfType (type_beside (of_literal l) other) v
literal-typed (number n) other v is = number-typed (type_or types.Text other) n.token (written false n) v is
literal-typed (negative minus n) other v is = number-typed (type_or types.Text other) minus (written true n) v is
literal-typed (quoted q) other v is = field-typed (type_or types.Text other) q.value v (value-by (field_value (type_or types.Text other) q.value) q.token v is)
literal-typed (constant yes k) other v is = let same : values.Bool true ≡ v = cc (is) in subst (IsOfType types.Bool) same tt
literal-typed (constant no k) other v is = let same : values.Bool false ≡ v = cc (is) in subst (IsOfType types.Bool) same tt
literal-typed (constant unknown k) other v is = let null : values.Null ≡ v = cc (is) in subst (IsOfType (type_or types.Text other)) null tt
