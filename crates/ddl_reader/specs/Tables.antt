-- What CREATE TABLE, COPY, STATISTICS and ANALYZE define (PostgreSQL manual, CREATE TABLE, COPY and ANALYZE; STATISTICS is own).
use Rattle.std.specs.Prelude.{ℕ, List, [], ◌∷◌, drop, map, cond, Option, Some, None, Result, Ok, Err}
use Rattle.std.specs.Str.{bytes_eq}
use Rattle.pg_base.specs.declared.limits.TheConstants.{MOST_COLUMNS}
use Rattle.pg_base.specs.declared.numbers.TableNo.{TableNo}
use Rattle.pg_base.specs.declared.numbers.ColNo.{ColNo}
use Rattle.pg_base.specs.declared.faults.Code.TheVariants.{S2, S15, S17}
use Rattle.pg_base.specs.declared.faults.Limit.TheVariants.{Columns}
use Rattle.pg_base.specs.declared.faults.Fault.{Fault}
use Rattle.pg_value.specs.declared.columns.Column.{Column}
use Rattle.pg_value.specs.Fields.{null_text}
use Rattle.sql_lex.specs.declared.tokens.Token.{Token}
use Rattle.sql_grammar.specs.Faults.{fault_at}
use Rattle.catalog.specs.Statistics.{Statistics}
use Rattle.ddl_reader.specs.Columns.{BoundColumn}

-- what is defined: a table by its name, its columns' names and its columns; the rows and pages of a table; what is known of
-- a column of a table; data for a table, from an offset on; or that the rows of a table give its statistics
pub data Definition : Type 0 where
  table : List ℕ → List (List ℕ) → List Column → Definition
  sizes_for : TableNo → ℕ → ℕ → Definition
  statistics_for : TableNo → ColNo → Statistics → Definition
  data_for : TableNo → ℕ → Definition
  analysis_of : TableNo → Definition

-- with the offsets of the words at which the catalogue's refusals stand
pub record Reading : Type 0 where
  pub definition : Definition
  pub at : List ℕ

-- the table of this name, whose token is given, with these columns
abbrev pub table_reading : List ℕ → Token → List BoundColumn → Reading
table_reading name token bs = record {
  definition = table name (map (λ b. b.name) bs) (map (λ b. b.column) bs);
  at = token.start ∷ map (λ b. b.name_at.start) bs;
}

-- where there are columns past the limit, the fault is at the name of the first
abbrev pub limited_columns : Reading → List BoundColumn → Result Reading Fault
limited_columns reading [] = Ok reading
limited_columns reading (b ∷ _) = Err (fault_at (S15 Columns) b.name_at)

-- after all columns are bound comes their limit
abbrev pub bound_table : List ℕ → Token → Result (List BoundColumn) Fault → Result Reading Fault
bound_table name token (Err f) = Err f
bound_table name token (Ok bs) = limited_columns (table_reading name token bs) (drop MOST_COLUMNS bs)

-- data for a table: of this number where its name is known, from this offset on, with this text for NULL; each of the two
-- words with its token
abbrev pub data_for_named : Option TableNo → Token → List ℕ → Token → ℕ → Result Reading Fault
data_for_named None name_at null null_at start = Err (fault_at S2 name_at)
data_for_named (Some t) name_at null null_at start =
    cond (bytes_eq null null_text) (Ok (record { definition = data_for t start; at = [] })) (Err (fault_at S17 null_at))

-- after the line on which the statement ends
abbrev pub data_after : Option TableNo → Token → List ℕ → Token → Result ℕ Fault → Result Reading Fault
data_after t name_at null null_at (Err f) = Err f
data_after t name_at null null_at (Ok start) = data_for_named t name_at null null_at start
