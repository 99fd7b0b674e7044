-- The columns of CREATE TABLE: as they are defined_column, and bound from the left (PostgreSQL manual, CREATE
-- TABLE).
use Rattle.std.specs.Prelude.{ℕ, Bool, true, false, List, [], ◌∷◌, Option, Some, Result, Ok, Err}
use Rattle.pg_base.specs.declared.faults.Fault.{Fault}
use Rattle.pg_value.specs.declared.value.SqlType.{SqlType}
use Rattle.pg_value.specs.declared.value.SqlType.TheVariants as types
use Rattle.pg_value.specs.declared.columns.Column.{Column}
use Rattle.sql_lex.specs.declared.tokens.Token.{Token}
use Rattle.sql_grammar.specs.Terminals.{Said, token_of}
use Rattle.sql_grammar.specs.Syntax.{Mark, Nulls, unwritten, not_null, nullable, Modifiers, no_modifiers, modifiers, TypeTree, named_type, character_varying, timestamp_with_zone, timestamp_without_zone, ColDef, coldef}
use Rattle.sql_grammar.specs.Faults.{bytes_of}
use Rattle.ddl_reader.specs.declared.types.TypeWord.{TypeWord}
use Rattle.ddl_reader.specs.declared.types.TypeWord.TheVariants.{Fraction, Length}
use Rattle.ddl_reader.specs.Types.{type_bound, word_named}
use Rattle.expr_reader.specs.Lists.{further_parts, bound_each}

-- a type as it is written: what its words say, or none, their first token, and the numbers behind them
pub record Kind : Type 0 where
  pub word : Option TypeWord
  pub at : Token
  pub numbers : List Said

-- a column as it is defined_column: its name in small letters with its token, its type, and whether NOT NULL stands
pub record Written : Type 0 where
  pub name : List ℕ
  pub name_at : Token
  pub kind : Kind
  pub not_null : Bool

-- a column with its type
pub record BoundColumn : Type 0 where
  pub name : List ℕ
  pub name_at : Token
  pub column : Column

-- NOT NULL is defined_column
abbrev pub refuses_null : Nulls → Bool
refuses_null unwritten = false
refuses_null (not_null _ _) = true
refuses_null (nullable _) = false

-- the numbers in parentheses, none where there are no parentheses
abbrev pub numbers_in : Modifiers → List Said
numbers_in no_modifiers = []
numbers_in (modifiers _ n ns _) = n ∷ further_parts (λ k. k) ns

-- a type
abbrev pub kind_of : TypeTree → Kind
kind_of (named_type n m) = record { word = word_named (bytes_of n); at = token_of n; numbers = numbers_in m }
kind_of (character_varying c _ m) = record { word = Some Length; at = c; numbers = numbers_in m }
kind_of (timestamp_with_zone s m _ _ _) = record { word = Some (Fraction types.TimestampTz); at = s; numbers = numbers_in m }
kind_of (timestamp_without_zone s m _ _ _) = record { word = Some (Fraction types.Timestamp); at = s; numbers = numbers_in m }

-- a column
abbrev pub defined_column : ColDef → Written
defined_column (coldef name kind nulls) = record { name = bytes_of name; name_at = token_of name; kind = kind_of kind; not_null = refuses_null nulls }

-- further columns
abbrev pub further : List (Mark × ColDef) → List Written
further = further_parts defined_column

-- a column with its type, or the type's fault
abbrev pub bound_by : Result SqlType Fault → Written → Result BoundColumn Fault
bound_by (Err fault) w = Err fault
bound_by (Ok t) w = Ok (record { name = w.name; name_at = w.name_at; column = record { typed = t; not_null = w.not_null } })

-- a column bound
abbrev pub bound_column : Written → Result BoundColumn Fault
bound_column w = bound_by (type_bound w.kind.at w.kind.word w.kind.numbers) w

-- columns bound from the left, or the first fault
abbrev pub bound_all : List Written → Result (List BoundColumn) Fault
bound_all = bound_each bound_column
