-- Look-ups by name, refusals of definitions and statistics, and the size of a table (PostgreSQL manual, CREATE TABLE and
-- CREATE INDEX; statistics, limits and the sizes without statistics are own).
use Rattle.std.specs.Prelude.{◌≡◌, ◌<◌, ◌+◌, ◌-◌, ◌/◌, ◌⊎◌, ℕ, List, true, false, length, max, position, Contains, Option, Some, None}
use Rattle.std.specs.Option.{option_map}
use Rattle.std.specs.Str.{bytes_eq}
use Rattle.pg_base.specs.declared.limits.TheConstants.{MOST_INDEXES, MOST_TABLES}
use Rattle.pg_base.specs.declared.numbers.TableNo.{TableNo}
use Rattle.pg_base.specs.declared.numbers.ColNo.{ColNo}
use Rattle.catalog.specs.declared.fault.CatalogFault.{CatalogFault}
use Rattle.catalog.specs.declared.fault.CatalogFault.TheVariants.{NameTaken, ColumnTwice, TooMany, BadNumber, Memory}
use Rattle.catalog.specs.declared.limits.TheConstants.{ROWS_PER_PAGE}
use Rattle.pg_base.specs.Names.{AreDistinct, IsFirstRepeat}
use Rattle.catalog.specs.Contents.{Contents, all_names, indexes_of, table_at, table_names}
use Rattle.catalog.specs.Indexes.{Index, AreDifferentColumns, IsFirstTwice, columns_of, has_form}
use Rattle.catalog.specs.declared.table.Sizes.{Sizes}
use Rattle.catalog.specs.Statistics.{Statistics, IsFirstRefused, is_count}

-- the table of a name
abbrev pub table_named : Contents → List ℕ → Option TableNo
table_named c name = option_map (λ n. record { 0 = n }) (position (bytes_eq name) (table_names c))

-- the column of a name, of a table
abbrev pub column_named : Contents → TableNo → List ℕ → Option ColNo
column_named c t name = option_map (λ n. record { 0 = n }) (position (bytes_eq name) (table_at c t).names)

-- the name is one of no table and of no index
abbrev pub IsUnused : Contents → List ℕ → Type 0
IsUnused c name = ¬ Contains (all_names c) name

-- a new table may be made: its name is unused, its columns' names differ, and fewer than 64 tables are there
pub record IsAcceptable (c : Contents) (name : List ℕ) (names : List (List ℕ)) : Type 0 where
  pub free : IsUnused c name
  pub distinct : AreDistinct names
  pub room : length c.tables < MOST_TABLES

-- why a new table is refused: a table or an index has its name; else a column name stands twice, at the first such place;
-- else 64 tables are there; and where none of these holds, memory ran out
abbrev pub IsRefusal : Contents → List ℕ → List (List ℕ) → CatalogFault → Type 0
IsRefusal c name names NameTaken = Contains (all_names c) name
IsRefusal c name names (ColumnTwice place) = IsUnused c name × IsFirstRepeat names place
IsRefusal c name names TooMany = IsUnused c name × AreDistinct names × (length c.tables ≡ MOST_TABLES)
IsRefusal c name names (BadNumber place) = ⊥
IsRefusal c name names Memory = IsAcceptable c name names

-- a new index may be made: its name is unused, no column stands twice, its table has fewer than 8 indexes, and the method has its form
pub record IsAcceptableIndex (c : Contents) (name : List ℕ) (x : Index) : Type 0 where
  pub free : IsUnused c name
  pub distinct : AreDifferentColumns (columns_of x)
  pub room : length (indexes_of c x.table) < MOST_INDEXES
  pub form : has_form x ≡ true

-- why a new index is refused: a table or an index has its name; else a column stands twice, at the first such place; else
-- its table has 8 indexes; else the method has no index of its form; and where none of these holds, memory ran out
abbrev pub IsIndexRefusal : Contents → List ℕ → Index → CatalogFault → Type 0
IsIndexRefusal c name x NameTaken = Contains (all_names c) name
IsIndexRefusal c name x (ColumnTwice place) = IsUnused c name × IsFirstTwice (columns_of x) place
IsIndexRefusal c name x TooMany = IsUnused c name × AreDifferentColumns (columns_of x) × (length (indexes_of c x.table) ≡ MOST_INDEXES)
IsIndexRefusal c name x (BadNumber place) = IsUnused c name × AreDifferentColumns (columns_of x) × (length (indexes_of c x.table) < MOST_INDEXES) × (has_form x ≡ false) × (place ≡ 0)
IsIndexRefusal c name x Memory = IsAcceptableIndex c name x

-- why the size of a table is refused: the rows, at place 0, else the pages, at place 1, are no count
abbrev pub IsSizeRefusal : ℕ → ℕ → CatalogFault → Type 0
IsSizeRefusal rows pages (BadNumber place) = ((place ≡ 0) × (is_count rows ≡ false)) ⊎ ((place ≡ 1) × (is_count rows ≡ true) × (is_count pages ≡ false))
IsSizeRefusal rows pages _ = ⊥

-- why the statistics of a column are refused: the first place at which something is
abbrev pub IsStatisticsRefusal : Statistics → CatalogFault → Type 0
IsStatisticsRefusal s (BadNumber place) = IsFirstRefused s place
IsStatisticsRefusal s _ = ⊥

-- the rows of a table: those given, else those loaded, at least 1
abbrev pub rows_by : ℕ → Option Sizes → ℕ
rows_by loaded None = max 1 loaded
rows_by loaded (Some s) = s.rows

-- the rows that estimates take a table to have (pg_class, reltuples)
abbrev pub rows_of : Contents → TableNo → ℕ
rows_of c t = rows_by (table_at c t).loaded (table_at c t).sizes

-- the pages of a table: those given, else its rows by 100, rounded up
abbrev pub pages_by : ℕ → Option Sizes → ℕ
pages_by loaded None = (max 1 loaded + (ROWS_PER_PAGE - 1)) / ROWS_PER_PAGE
pages_by loaded (Some s) = s.pages

-- the heap pages that costs take a table to have (pg_class, relpages)
abbrev pub pages_of : Contents → TableNo → ℕ
pages_of c t = pages_by (table_at c t).loaded (table_at c t).sizes
