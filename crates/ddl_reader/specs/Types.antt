-- The types of columns by their words and the numbers in parentheses behind them (PostgreSQL manual, chapter Data Types; codes
-- 42704 and 22023 of the appendix Error Codes; the sizes of a numeric that are taken are own).
use Rattle.std.specs.Prelude.{ℕ, Bool, ◌&&◌, cond, nat_le, List, [], ◌∷◌, codes, bytes_eq, find, Option, Some, None, option_map, Result, Ok, Err}
use Rattle.std.specs.List.{list_any}
use Rattle.std.specs.Option.{option_or}
use Rattle.std.specs.Str.Parse.{digits_value}
use Rattle.pg_base.specs.declared.faults.Code.TheVariants.{S8, S17}
use Rattle.pg_base.specs.declared.faults.Fault.{Fault}
use Rattle.pg_value.specs.declared.value.SqlType.{SqlType}
use Rattle.pg_value.specs.declared.value.SqlType.TheVariants as types
use Rattle.sql_lex.specs.declared.tokens.Token.{Token}
use Rattle.sql_grammar.specs.Terminals.{Said}
use Rattle.sql_grammar.specs.Faults.{fault_at}
use Rattle.expr_reader.specs.Types.{type_named, type_names}
use Rattle.ddl_reader.specs.declared.types.TypeWord.{TypeWord}
use Rattle.ddl_reader.specs.declared.types.TypeWord.TheVariants.{Plain, Length, Fraction, Sizes}

-- the names, of one word in small letters, that say this
abbrev pub word_names : TypeWord → List (List ℕ)
word_names Length = codes "varchar" ∷ []
word_names Sizes = codes "numeric" ∷ codes "decimal" ∷ []
word_names (Fraction t) = type_names t
word_names (Plain t) = type_names t

-- what a name says of a type: one behind which numbers may stand, else one that stands for a type by itself, or none
abbrev pub sized_named : List ℕ → Option TypeWord
sized_named name = find (λ w. list_any (bytes_eq name) (word_names w)) (Length ∷ Fraction types.Timestamp ∷ Fraction types.TimestampTz ∷ Sizes ∷ [])

abbrev pub plain_named : List ℕ → Option TypeWord
plain_named name = option_map Plain (type_named name)

abbrev pub word_named : List ℕ → Option TypeWord
word_named name = option_or (sized_named name) (plain_named name)

-- the number that digits write is from one number to another
abbrev pub is_from_to : ℕ → ℕ → Said → Bool
is_from_to least most n = nat_le least (digits_value 10 n.value) && nat_le (digits_value 10 n.value) most

-- a type where a number is one that it takes, or the fault at the number
abbrev pub taken : Bool → SqlType → Said → Result SqlType Fault
taken fits t n = cond fits (Ok t) (Err (fault_at S17 n.token))

-- the numeric type of so many digits, of which so many stand behind the point
abbrev pub numeric : Said → ℕ → SqlType
numeric digits scale = types.Numeric (digits_value 10 digits.value) scale

-- the numeric type of so many digits, of which so many stand behind the point, or the fault at the first number or the second
abbrev pub sizes_taken : Said → Said → Result SqlType Fault
sizes_taken p s = cond (is_from_to 1 18 p) (taken (nat_le (digits_value 10 s.value) (digits_value 10 p.value)) (numeric p (digits_value 10 s.value)) s) (Err (fault_at S17 p.token))

-- the type of its words at this token and of the numbers behind them: a length from 1 to 10485760, the six digits of a
-- fraction of a second, or from 1 to 18 digits of a numeric and how many of them stand behind the point, 0 where that is left
-- out; without numbers a numeric is unknown
abbrev pub type_sized : Token → TypeWord → List Said → Result SqlType Fault
type_sized token (Plain t) [] = Ok t
type_sized token Length [] = Ok types.Text
type_sized token (Fraction t) [] = Ok t
type_sized token Sizes [] = Err (fault_at S8 token)
type_sized token Length (n ∷ []) = taken (is_from_to 1 10485760 n) types.Text n
type_sized token (Fraction t) (n ∷ []) = taken (is_from_to 6 6 n) t n
type_sized token Sizes (p ∷ []) = taken (is_from_to 1 18 p) (numeric p 0) p
type_sized token Sizes (p ∷ s ∷ []) = sizes_taken p s
type_sized token word (n ∷ ns) = Err (fault_at S17 n.token)

-- the type of a column, or the first fault: of its words, then of its numbers
abbrev pub type_bound : Token → Option TypeWord → List Said → Result SqlType Fault
type_bound token None ns = Err (fault_at S8 token)
type_bound token (Some word) ns = type_sized token word ns
