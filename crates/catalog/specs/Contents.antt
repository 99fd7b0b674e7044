-- What a catalogue holds (PostgreSQL manual, chapter System Catalogs, pg_class, pg_attribute, pg_index and pg_statistic).
use Rattle.std.specs.Prelude.{◌≡◌, ◌<◌, ◌≤◌, ◌+◌, ℕ, List, [], ◌∷◌, ◌++◌, cond, nat_eq, length, map, All, Contains, slice_index_or, slice_set, Option, Some, None}
use Rattle.std.specs.List.{AllZip}
use Rattle.pg_base.specs.declared.limits.TheConstants.{MOST_COLUMNS, MOST_INDEXES, MOST_TABLES}
use Rattle.pg_base.specs.declared.numbers.TableNo.{TableNo}
use Rattle.pg_base.specs.declared.numbers.ColNo.{ColNo}
use Rattle.pg_base.specs.declared.numbers.IndexNo.{IndexNo}
use Rattle.opfamily.specs.pg_value_columns_Column.{Column}
use Rattle.pg_base.specs.Names.{IsName, AreDistinct}
use Rattle.opfamily.specs.declared.classes.Method.TheVariants.{Btree}
use Rattle.catalog.specs.Indexes.{Index, IsLawfulIndex}
use Rattle.catalog.specs.declared.table.Sizes.{Sizes}
use Rattle.catalog.specs.Statistics.{Statistics, AreLawfulSizes, IsLawfulStatistics}

-- the definition of a table: its name, its columns' names and the columns from the left, and the number of rows loaded; its size where a statement gave it, and what statements gave for its columns
pub record TableDef : Type 0 where
  pub name : List ℕ
  pub names : List (List ℕ)
  pub columns : List Column
  pub loaded : ℕ
  pub sizes : Option Sizes
  pub stats : List (Option Statistics)

-- the definition of an index with its name
pub record NamedIndex : Type 0 where
  pub name : List ℕ
  pub index : Index

-- the accepted definitions: tables and indexes, each in order of making
pub record Contents : Type 0 where
  pub tables : List TableDef
  pub indexes : List NamedIndex

-- nothing is known of any of these columns
abbrev pub unknown : List Column → List (Option Statistics)
unknown columns = map (λ _. None) columns

-- a table as it is made: without rows, and nothing is known of it
abbrev pub new_table : List ℕ → List (List ℕ) → List Column → TableDef
new_table name names columns = record { name = name; names = names; columns = columns; loaded = 0; sizes = None; stats = unknown columns }

-- the catalogue without definitions
abbrev pub nothing : Contents
nothing = record { tables = []; indexes = [] }

-- no table and no index: what stands where a number is none of one
abbrev pub no_table : TableDef
no_table = new_table [] [] []

-- what stands where a number is none of an index: without a name and without keys
abbrev pub no_index : NamedIndex
no_index = record { name = []; index = record { table = record { 0 = 0 }; method = Btree; keys = []; include = []; predicate = None } }

-- the number is one of a table
abbrev pub IsTable : Contents → TableNo → Type 0
IsTable c t = t.0 < length c.tables

-- the definition of a table
abbrev pub table_at : Contents → TableNo → TableDef
table_at c t = slice_index_or c.tables t.0 no_table

-- the number is one of a column of the table
abbrev pub IsColumn : Contents → TableNo → ColNo → Type 0
IsColumn c t column = column.0 < length (table_at c t).columns

-- the name of a column of a table
abbrev pub name_at : Contents → TableNo → ColNo → List ℕ
name_at c t column = slice_index_or (table_at c t).names column.0 []

-- what is known of a column of a table
abbrev pub stats_at : Contents → TableNo → ColNo → Option Statistics
stats_at c t column = slice_index_or (table_at c t).stats column.0 None

-- the number is one of an index
abbrev pub IsIndex : Contents → IndexNo → Type 0
IsIndex c i = i.0 < length c.indexes

-- the definition of an index, and its name
abbrev pub index_at : Contents → IndexNo → Index
index_at c i = (slice_index_or c.indexes i.0 no_index).index

-- the name that CREATE INDEX gave the index of a number
abbrev pub index_name_at : Contents → IndexNo → List ℕ
index_name_at c i = (slice_index_or c.indexes i.0 no_index).name

-- the numbers of a table's indexes, in order of making; the first of the list has number n
abbrev pub numbers_from : ℕ → List NamedIndex → TableNo → List IndexNo
numbers_from n [] t = []
numbers_from n (x ∷ xs) t = cond (nat_eq x.index.table.0 t.0) (record { 0 = n } ∷ numbers_from (n + 1) xs t) (numbers_from (n + 1) xs t)

-- the indexes of a table by number, in order of making (pg_index, indrelid)
abbrev pub indexes_of : Contents → TableNo → List IndexNo
indexes_of c t = numbers_from 0 c.indexes t

-- the names of all tables, of all indexes, and of both, in order of making
abbrev pub table_names : Contents → List (List ℕ)
table_names c = map (λ d. d.name) c.tables

-- the names of all indexes, in order of making
abbrev pub index_names : Contents → List (List ℕ)
index_names c = map (λ x. x.name) c.indexes

-- the names that are taken: those of tables and of indexes are of one name space (pg_class, relname)
abbrev pub all_names : Contents → List (List ℕ)
all_names c = table_names c ++ index_names c

-- one more table, the last
abbrev pub with_table : Contents → TableDef → Contents
with_table c d = record c { tables = c.tables ++ d ∷ [] }

-- one more index, the last
abbrev pub with_index : Contents → List ℕ → Index → Contents
with_index c name x = record c { indexes = c.indexes ++ record { name = name; index = x } ∷ [] }

-- another definition of a table; all else as it is
abbrev pub with_definition : Contents → TableNo → TableDef → Contents
with_definition c t d = record c { tables = slice_set c.tables t.0 d }

-- another number of rows loaded into a table
abbrev pub with_loaded : Contents → TableNo → ℕ → Contents
with_loaded c t rows = with_definition c t (record (table_at c t) { loaded = rows })

-- the rows and pages given for a table, in place of any former ones
abbrev pub with_sizes : Contents → TableNo → ℕ → ℕ → Contents
with_sizes c t rows pages = with_definition c t (record (table_at c t) { sizes = Some (record { rows = rows; pages = pages }) })

-- what is known of a column of a table, in place of what was
abbrev pub with_stats : Contents → TableNo → ColNo → Statistics → Contents
with_stats c t column s = with_definition c t (record (table_at c t) { stats = slice_set (table_at c t).stats column.0 (Some s) })

-- what is known of a column, if anything is, is lawful
abbrev pub IsKnown : Column → Option Statistics → Type 0
IsKnown column None = Unit {0}
IsKnown column (Some s) = IsLawfulStatistics column.typed s

-- the sizes given for a table, if any are, are lawful
abbrev pub AreSizes : Option Sizes → Type 0
AreSizes None = Unit {0}
AreSizes (Some s) = AreLawfulSizes s

-- a lawful table: 1 to MOST_COLUMNS columns, each with a name, and no two of the same name; what statements gave for it is lawful
pub record IsLawfulTable (d : TableDef) : Type 0 where
  pub name : IsName d.name
  pub names : All IsName d.names
  pub distinct : AreDistinct d.names
  pub width : length d.names ≡ length d.columns
  pub some : 0 < length d.columns
  pub few : length d.columns ≤ MOST_COLUMNS
  pub sizes : AreSizes d.sizes
  pub stats : AllZip IsKnown d.columns d.stats

-- a lawful index of a catalogue: one of a table there, with a name
pub record IsIndexOf (c : Contents) (x : NamedIndex) : Type 0 where
  pub name : IsName x.name
  pub table : IsTable c x.index.table
  pub index : IsLawfulIndex (table_at c x.index.table).columns x.index

-- lawful contents: at most MOST_TABLES tables, each lawful and with at most MOST_INDEXES indexes, each index lawful, and no two of the same name
pub record IsLawful (c : Contents) : Type 0 where
  pub tables : All IsLawfulTable c.tables
  pub few : length c.tables ≤ MOST_TABLES
  pub indexes : All (IsIndexOf c) c.indexes
  pub room : (t : TableNo) → length (indexes_of c t) ≤ MOST_INDEXES
  pub tables_differ : AreDistinct (table_names c)
  pub indexes_differ : AreDistinct (index_names c)
  pub apart : (name : List ℕ) → Contains (table_names c) name → ¬ Contains (index_names c) name
