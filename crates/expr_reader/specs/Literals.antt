-- The value of a literal, or its fault (PostgreSQL manual, chapters Lexical Structure, Constants, and Type Conversion; codes:
-- appendix Error Codes).
use Rattle.std.specs.Prelude.{ℕ, List, Bool, true, false, cond, Option, Some, None, Result, Ok, Err, ℤ}
use Rattle.std.specs.Str.Parse.{digits_value}
use Rattle.pg_base.specs.declared.faults.Code.TheVariants.{S8, S10, S11, S12, S17}
use Rattle.pg_base.specs.declared.faults.Fault.{Fault}
use Rattle.pg_value.specs.declared.fields.FieldFault.{FieldFault}
use Rattle.pg_value.specs.declared.fields.FieldFault.TheVariants.{Range}
use Rattle.pg_value.specs.declared.value.SqlType.{SqlType}
use Rattle.pg_value.specs.declared.value.SqlType.TheVariants as types
use Rattle.pg_value.specs.declared.value.Value.{Value}
use Rattle.pg_value.specs.declared.value.Value.TheVariants as values
use Rattle.pg_value.specs.Fields.{signed, whole_value, field_value}
use Rattle.pg_value.specs.Types.{takes_whole}
use Rattle.sql_lex.specs.declared.tokens.Token.{Token}
use Rattle.sql_grammar.specs.Terminals.{Said}
use Rattle.sql_grammar.specs.Faults.{fault_at}
use Rattle.sql_grammar.specs.Syntax.{yes, no, unknown, Lit, number, negative, quoted, constant}

-- the first token of a literal
abbrev pub place_of_lit : Lit → Token
place_of_lit (number n) = n.token
place_of_lit (negative minus n) = minus
place_of_lit (quoted q) = q.token
place_of_lit (constant c k) = k

-- the whole number that digits write, with a minus or without
abbrev pub written : Bool → Said → ℤ
written minus n = signed minus (digits_value 10 n.value)

-- a value, or the fault of a literal at this token that is none of the type
abbrev pub value_or_fault : Token → Result Value FieldFault → Result Value Fault
value_or_fault token (Ok v) = Ok v
value_or_fault token (Err Range) = Err (fault_at S11 token)
value_or_fault token (Err _) = Err (fault_at S12 token)

-- the type that a literal has by itself: a quoted text and NULL have none
abbrev pub type_of_lit : Lit → Option SqlType
type_of_lit (number n) = Some types.Int8
type_of_lit (negative minus n) = Some types.Int8
type_of_lit (quoted q) = None
type_of_lit (constant yes k) = Some types.Bool
type_of_lit (constant no k) = Some types.Bool
type_of_lit (constant unknown k) = None

-- the type of a whole number beside one of this type: that type where it is numeric, else int8
abbrev pub number_type : SqlType → SqlType
number_type (types.Numeric digits scale) = types.Numeric digits scale
number_type _ = types.Int8

-- the value of a literal in a condition, where a quoted text has this type and a whole number the type that it has beside
-- this one: a quoted text is read as the text of a field, but never as NULL
abbrev pub literal_value : SqlType → Lit → Result Value Fault
literal_value t (number n) = value_or_fault n.token (whole_value (number_type t) (written false n))
literal_value t (negative minus n) = value_or_fault minus (whole_value (number_type t) (written true n))
literal_value t (quoted q) = value_or_fault q.token (field_value t q.value)
literal_value t (constant yes k) = Ok (values.Bool true)
literal_value t (constant no k) = Ok (values.Bool false)
literal_value t (constant unknown k) = Ok values.Null

-- the value of a quoted text behind the name of a type, at this token, or the fault there: no type has the name, or the text
-- spells no value of it
abbrev pub named_value : Token → Option SqlType → List ℕ → Result Value Fault
named_value token None text = Err (fault_at S8 token)
named_value token (Some t) text = value_or_fault token (field_value t text)

-- a whole number, given at this token, as a value of a column of this type
abbrev pub number_as : SqlType → Token → ℤ → Result Value Fault
number_as t token n = cond (takes_whole t) (value_or_fault token (whole_value t n)) (Err (fault_at S10 token))

-- a truth value, given at this token, as a value of a column of this type
abbrev pub flag_as : SqlType → Token → Bool → Result Value Fault
flag_as types.Bool token b = Ok (values.Bool b)
flag_as _ token b = Err (fault_at S10 token)

-- the value of a literal that is given for a column of this type: of another kind it has a wrong type, and NULL is none (own)
abbrev pub typed_value : SqlType → Lit → Result Value Fault
typed_value t (number n) = number_as t n.token (written false n)
typed_value t (negative minus n) = number_as t minus (written true n)
typed_value t (quoted q) = value_or_fault q.token (field_value t q.value)
typed_value t (constant yes k) = flag_as t k true
typed_value t (constant no k) = flag_as t k false
typed_value t (constant unknown k) = Err (fault_at S17 k)
