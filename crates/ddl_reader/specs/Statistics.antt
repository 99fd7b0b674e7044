-- What STATISTICS gives of a table and of a column, and which table ANALYZE names (STATISTICS is own; the values of literals:
-- PostgreSQL manual, chapter Type Conversion, Value Storage).
use Rattle.std.specs.Prelude.{ℕ, ◌-◌, ◌^◌, min, List, [], ◌∷◌, ◌++◌, map, flat_map, Option, Some, None, Result, Ok, Err}
use Rattle.std.specs.Str.Parse.{digits_value}
use Rattle.pg_base.specs.declared.numbers.TableNo.{TableNo}
use Rattle.pg_base.specs.declared.numbers.ColNo.{ColNo}
use Rattle.pg_base.specs.declared.faults.Code.{Code}
use Rattle.pg_base.specs.declared.faults.Code.TheVariants.{S2, S3}
use Rattle.pg_base.specs.declared.faults.Fault.{Fault}
use Rattle.pg_value.specs.declared.value.SqlType.{SqlType}
use Rattle.pg_value.specs.declared.value.Value.{Value}
use Rattle.sql_lex.specs.declared.tokens.Token.{Token}
use Rattle.sql_grammar.specs.Terminals.{Ident, Said, token_of}
use Rattle.sql_grammar.specs.Syntax.{Lit, Share, share, CommonPart, no_common, common, Histogram, no_histogram, histogram}
use Rattle.sql_grammar.specs.Faults.{bytes_of, fault_at}
use Rattle.expr_reader.specs.Literals.{typed_value, place_of_lit}
use Rattle.expr_reader.specs.Conditions.{next}
use Rattle.catalog.specs.Contents.{Contents, table_at}
use Rattle.catalog.specs.Indexes.{type_at}
use Rattle.catalog.specs.Tables.{table_named, column_named}
use Rattle.expr_reader.specs.Lists.{further_parts, bound_each}
use Rattle.ddl_reader.specs.Tables.{Reading, sizes_for, statistics_for, analysis_of}

-- the number that a word writes, or the greatest of its field where it is more
abbrev pub number_up_to : ℕ → Said → ℕ
number_up_to greatest n = min (digits_value 10 n.value) greatest

-- a number of rows, of pages or of different values, kept in 64 bits
abbrev pub number_of_64 : Said → ℕ
number_of_64 = number_up_to (2 ^ 64 - 1)

-- a share, in parts per million, kept in 32 bits; the catalogue refuses one of more than 1000000
abbrev pub number_of_32 : Said → ℕ
number_of_32 = number_up_to (2 ^ 32 - 1)

-- what a name means, or the fault at its word
abbrev pub known : {A : Type 0} → Code → Token → Option A → Result A Fault
known code token None = Err (fault_at code token)
known code token (Some x) = Ok x

-- a common value as it is written: its literal and its share
abbrev pub CommonWords : Type 0
CommonWords = Lit × Said

-- the literal and the share of a common value
abbrev pub common_words : Share → CommonWords
common_words (share l n) = (l, n)

-- the common values of COMMON from the left, none where it is left out
abbrev pub commons_of : CommonPart → List CommonWords
commons_of no_common = []
commons_of (common _ _ s ss _) = common_words s ∷ further_parts common_words ss

-- the bounds of HISTOGRAM from the left, none where it is left out
abbrev pub bounds_of : Histogram → List Lit
bounds_of no_histogram = []
bounds_of (histogram _ _ l ls _) = l ∷ further_parts (λ x. x) ls

-- a common value of a column of this type, with its share
abbrev pub common_value : SqlType → CommonWords → Result (Value × ℕ) Fault
common_value t w = next (typed_value t w.0) (λ v. Ok (v, number_of_32 w.1))

-- where a literal begins: at its minus, where it has one
abbrev pub start_of_lit : Lit → ℕ
start_of_lit l = (place_of_lit l).start

-- where a number begins
abbrev pub start_of : Said → ℕ
start_of n = n.token.start

-- where a common value and its share begin
abbrev pub starts_of_common : CommonWords → List ℕ
starts_of_common w = start_of_lit w.0 ∷ start_of w.1 ∷ []

-- the places of a column's statistics, in text order
abbrev pub places_of : Said → Said → List CommonWords → List Lit → List ℕ
places_of distinct nulls commons bounds = start_of distinct ∷ start_of nulls ∷ (flat_map starts_of_common commons ++ map start_of_lit bounds)

-- the rows and the pages of a table
abbrev pub sizes_reading : Said → Said → TableNo → Reading
sizes_reading rows pages t = record { definition = sizes_for t (number_of_64 rows) (number_of_64 pages); at = start_of rows ∷ start_of pages ∷ [] }

-- the table of this name
abbrev pub table_of_name : Contents → Ident → Result TableNo Fault
table_of_name cat n = known S2 (token_of n) (table_named cat (bytes_of n))

-- the column of this name, of a table
abbrev pub column_of_name : Contents → TableNo → Ident → Result ColNo Fault
column_of_name cat t n = known S3 (token_of n) (column_named cat t (bytes_of n))

-- what is known of a column of this type of a table: all literals are bound, from the left
abbrev pub statistics_reading : SqlType → TableNo → ColNo → Said → Said → List CommonWords → List Lit → Result Reading Fault
statistics_reading type t col distinct nulls commons bounds =
    next (bound_each (common_value type) commons) (λ values.
    next (bound_each (typed_value type) bounds) (λ limits. Ok (record {
      definition = statistics_for t col (record { distinct = number_of_64 distinct; nulls = number_of_32 nulls; common = values; histogram = limits });
      at = places_of distinct nulls commons bounds;
    })))

-- STATISTICS of a table: its name is bound
abbrev pub stated_rows : Contents → Ident → Said → Said → Result Reading Fault
stated_rows cat n rows pages = next (table_of_name cat n) (λ t. Ok (sizes_reading rows pages t))

-- STATISTICS of a column: the table's name is bound, then the column's, then the literals
abbrev pub column_statistics_of : Contents → Ident → Ident → Said → Said → List CommonWords → List Lit → Result Reading Fault
column_statistics_of cat n c distinct nulls commons bounds =
    next (table_of_name cat n) (λ t.
    next (column_of_name cat t c) (λ col. statistics_reading (type_at (table_at cat t).columns col) t col distinct nulls commons bounds))

-- what is read of ANALYZE of a table: no refusal of the catalogue has a place
abbrev pub analysis_reading : TableNo → Reading
analysis_reading t = record { definition = analysis_of t; at = [] }

-- ANALYZE: its table's name, the one that it has, is bound
abbrev pub analysis : Contents → Ident → Result Reading Fault
analysis cat n = next (table_of_name cat n) (λ t. Ok (analysis_reading t))
