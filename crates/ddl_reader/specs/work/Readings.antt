-- What is read of a statement, without pointers (own).
use Rattle.std.specs.Prelude.{◌≡◌, ℕ, ◌-◌, ◌^◌, min, Bool, true, false, List, [], ◌∷◌, ◌++◌, map, Result, Ok, Err, MatchResult}
use Rattle.std.specs.List.{flat_map}
use Rattle.pg_base.specs.declared.faults.Refusal.{Refusal}
use Rattle.pg_base.specs.declared.faults.Refusal.TheVariants as refusal
use Rattle.sql_lex.specs.declared.tokens.Token.{Token}
use Rattle.sql_grammar.specs.declared.class.Symbol.TheVariants.{Dot, Open}
use Rattle.sql_grammar.specs.Terminals.{Terminal, Ident, Said, token_of, t_mark, t_name}
use Rattle.sql_grammar.specs.Syntax.{Mark, ColDef, CommonPart, Histogram, CopyWords, copy, Statement}
use Rattle.sql_grammar.specs.Words.{words_of}
use Rattle.sql_grammar.specs.Faults.{bytes_of, IsStatement, IsFirstFault}
use Rattle.catalog.specs.Contents.{Contents, table_at}
use Rattle.catalog.specs.work.Entries.{statistics}
use Rattle.catalog.specs.Indexes.{type_at}
use Rattle.pg_base.specs.declared.faults.Fault.{Fault}
use Rattle.pg_base.specs.declared.numbers.TableNo.{TableNo}
use Rattle.pg_value.specs.declared.value.SqlType.{SqlType}
use Rattle.ddl_reader.specs.Statements.{Means}
use Rattle.ddl_reader.specs.work.Statements.{HasNoLineFault, IsOtherWord}
use Rattle.ddl_reader.specs.declared.ddl.Ddl.{Ddl}
use Rattle.ddl_reader.specs.declared.ddl.Ddl.TheVariants.{Table, Rows, Column, Copy, Analyze}
use Rattle.ddl_reader.specs.declared.ddl.Read.{Read}
use Rattle.ddl_reader.specs.declared.literals.CommonRead.{CommonRead}
use Rattle.ddl_reader.specs.declared.statistics.Counted.{Counted}
use Rattle.expr_reader.specs.declared.value.Placed.{Placed}
use Rattle.expr_reader.specs.Conditions.{next}
use Rattle.expr_reader.specs.work.Reading.{numbered}
use Rattle.ddl_reader.specs.Columns.{defined_column, further, bound_all}
use Rattle.ddl_reader.specs.Statistics.{sizes_reading, statistics_reading, column_of_name, stated_rows, column_statistics_of, commons_of, bounds_of}
use Rattle.ddl_reader.specs.work.AsMeant.{IsAsMeant, ends_common, ends_histogram, words_of_body, words_of_sizes, words_of_lists, words_of_column, common_seen, starts_seen, value_seen, start_seen}
use Rattle.ddl_reader.specs.Tables.{Definition, table, sizes_for, statistics_for, data_for, analysis_of, bound_table, Reading}

-- what is defined
abbrev pub definition : Ddl → Definition
definition (Table name names columns) = table name names.items columns
definition (Rows t rows pages) = sizes_for t rows pages
definition (Column t col stats) = statistics_for t col (statistics stats)
definition (Copy t start) = data_for t start
definition (Analyze t) = analysis_of t

-- what is read
abbrev pub reading : Read → Reading
reading r = record { definition = definition r.ddl; at = r.at.items }

-- what is read of the statement, or its fault, is what it means; or there was no memory, and the rest of its line has no fault
abbrev pub ReadsAs : Contents → List ℕ → Statement → Result Read Refusal → Type 0
ReadsAs cat text x (Ok v) = Means cat text x (Ok (reading v))
ReadsAs cat text x (Err (refusal.Fault f)) = Means cat text x (Err f)
ReadsAs cat text x (Err refusal.Memory) = HasNoLineFault text x

-- why the syntax is refused, by whether the first word is CREATE, without INDEX behind it, COPY, STATISTICS or ANALYZE; that
-- takes no memory
abbrev pub IsSyntaxRefusal : List ℕ → List Token → Bool → Refusal → Type 0
IsSyntaxRefusal text tokens true (refusal.Fault f) = IsFirstFault IsStatement text tokens f
IsSyntaxRefusal text tokens false (refusal.Fault f) = IsOtherWord tokens f
IsSyntaxRefusal text tokens opens refusal.Memory = ⊥

-- what is read of the statistics of a column: its numbers, its common values and its bounds
abbrev pub statistics_read : Counted → List CommonRead → List Placed → Reading
statistics_read c commons bounds = record {
  definition = statistics_for c.table c.col (record { distinct = c.distinct.value; nulls = min c.nulls.value (2 ^ 32 - 1); common = map common_seen commons; histogram = map value_seen bounds });
  at = c.distinct.token.start ∷ c.nulls.token.start ∷ (flat_map starts_seen commons ++ map start_seen bounds);
}

-- what is read is what is meant, or its fault is; or there was no memory
abbrev pub IsReadingOf : Result Read Refusal → Result Reading Fault → Type 0
IsReadingOf = IsAsMeant Read Reading reading

-- what is made is a given reading, or there was no memory
abbrev pub IsMadeAs : Result Read Refusal → Reading → Type 0
IsMadeAs result meant = MatchResult result (λ r. reading r ≡ meant) (λ e. e ≡ refusal.Memory)

-- words are those of COPY
abbrev pub AreOfCopy : List Terminal → Type 0
AreOfCopy ts = (k : CopyWords) × (n : Ident) × (null : Said) × (ts ≡ words_of (copy k n null))

-- where words are those of COPY, a property holds of its parts
abbrev pub IfCopy : List Terminal → (CopyWords → Ident → Said → Type 0) → Type 0
IfCopy ts P = (k : CopyWords) (n : Ident) (null : Said) → ts ≡ words_of (copy k n null) → P k n null

-- an offset is where the last token ends
abbrev pub IsLastEnd : List Token → ℕ → Type 0
IsLastEnd tokens end = (before : List Token) × (token : Token) × (tokens ≡ before ++ token ∷ []) × (end ≡ token.end)

-- CREATE TABLE from the table's name on is read as it means
abbrev pub ReadsTable : List Terminal → Result Read Refusal → Type 0
ReadsTable ts read =
    (n : Ident) (o : Mark) (x : ColDef) (xs : List (Mark × ColDef)) (m : Mark) (rest : List Terminal) →
    ts ≡ t_name n ∷ t_mark Open o ∷ words_of_body x xs m rest →
    IsReadingOf read (bound_table (bytes_of n) (token_of n) (bound_all (defined_column x ∷ further xs)))

-- the lists of literals of a column of this type are read as they mean
abbrev pub ReadsLists : SqlType → Counted → List Terminal → Result Read Refusal → Type 0
ReadsLists t counted ts read =
    (d n : Said) (cs : CommonPart) (h : Histogram) (rest : List Terminal) → counted.distinct ≡ numbered d →
    counted.nulls ≡ numbered n →
    ends_common rest ≡ true → ends_histogram rest ≡ true → ts ≡ words_of_lists cs h rest →
    IsReadingOf read (statistics_reading t counted.table counted.col d n (commons_of cs) (bounds_of h))

-- STATISTICS of a column of a table from the column's name on is read as it means
abbrev pub ReadsColumnPart : Contents → TableNo → List Terminal → Result Read Refusal → Type 0
ReadsColumnPart cat t ts read =
    (c : Ident) (a : Terminal) (d : Said) (b : Terminal) (n : Said) (cs : CommonPart) (h : Histogram) (rest : List Terminal) →
    ends_common rest ≡ true → ends_histogram rest ≡ true → ts ≡ words_of_column c a d b n cs h rest →
    IsReadingOf read
    (next (column_of_name cat t c)
    (λ col. statistics_reading (type_at (table_at cat t).columns col) t col d n (commons_of cs) (bounds_of h)))

-- STATISTICS of a table from ROWS on is read as it means
abbrev pub ReadsSizesPart : TableNo → List Terminal → Result Read Refusal → Type 0
ReadsSizesPart t ts read =
    (r : Ident) (rows : Said) (b : Terminal) (pages : Said) (rest : List Terminal) → ts ≡ words_of_sizes r rows b pages rest →
    IsMadeAs read (sizes_reading rows pages t)

-- STATISTICS of a table from its name on is read as it means
abbrev pub ReadsSizes : Contents → List Terminal → Result Read Refusal → Type 0
ReadsSizes cat ts read =
    (t r : Ident) (rows : Said) (b : Terminal) (pages : Said) (rest : List Terminal) →
    ts ≡ t_name t ∷ words_of_sizes r rows b pages rest →
    IsReadingOf read (stated_rows cat t rows pages)

-- STATISTICS of a column from the table's name on is read as it means
abbrev pub ReadsColumnStatistics : Contents → List Terminal → Result Read Refusal → Type 0
ReadsColumnStatistics cat ts read =
    (t : Ident) (m : Mark) (c : Ident) (a : Terminal) (d : Said) (b : Terminal) (n : Said) (cs : CommonPart) (h : Histogram)
    (rest : List Terminal) →
    ends_common rest ≡ true → ends_histogram rest ≡ true → ts ≡ t_name t ∷ t_mark Dot m ∷ words_of_column c a d b n cs h rest →
    IsReadingOf read (column_statistics_of cat t c d n (commons_of cs) (bounds_of h))
