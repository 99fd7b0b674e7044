-- What holds of all that is read (own).
use Rattle.std.specs.Prelude.{◌≡◌, ◌<◌, ◌≤◌, ◌+◌, ◌*◌, ℕ, List, length, All}
use Rattle.pg_base.specs.declared.numbers.TableNo.{TableNo}
use Rattle.pg_base.specs.declared.numbers.ColNo.{ColNo}
use Rattle.pg_base.specs.declared.limits.TheConstants.{MOST_COLUMNS}
use Rattle.pg_base.specs.Names.{IsName}
use Rattle.pg_value.specs.declared.columns.Column.{Column}
use Rattle.catalog.specs.Contents.{Contents, IsTable, IsColumn, table_at}
use Rattle.catalog.specs.Indexes.{type_at}
use Rattle.catalog.specs.Statistics.{Statistics, AreValuesOf}
use Rattle.ddl_reader.specs.Tables.{Definition, table, sizes_for, statistics_for, data_for, analysis_of, Reading}

-- a new table: all names are in small letters, each of the columns, of which there is one at least and the limit of
-- a table at most, has one, and each name has a place in the text, the table's too
pub record IsSoundTable (text title : List ℕ) (titles : List (List ℕ)) (columns : List Column) (at : List ℕ) : Type 0 where
  pub name : IsName title
  pub names : All IsName titles
  pub width : length titles ≡ length columns
  pub places : length at ≡ length titles + 1
  pub within : All (λ a. a ≤ length text) at
  pub some : 0 < length columns
  pub few : length columns ≤ MOST_COLUMNS

-- the size of a table of the catalogue: the rows and the pages have places in the text
pub record AreSoundSizes (cat : Contents) (text : List ℕ) (t : TableNo) (at : List ℕ) : Type 0 where
  pub table : IsTable cat t
  pub places : length at ≡ 2
  pub within : All (λ a. a ≤ length text) at

-- what is known of a column of a table of the catalogue: its values are of the column's type and none is NULL; the two
-- numbers, each common value, its share and each bound have places in the text
pub record AreSoundStatistics (cat : Contents) (text : List ℕ) (t : TableNo) (col : ColNo) (s : Statistics) (at : List ℕ) : Type 0 where
  pub table : IsTable cat t
  pub column : IsColumn cat t col
  pub values : AreValuesOf (type_at (table_at cat t).columns col) s
  pub places : length at ≡ 2 + (2 * length s.common + length s.histogram)
  pub within : All (λ a. a ≤ length text) at

-- a definition with the places of its words: a new table, the size of a table, what is known of a column, data for a
-- table of the catalogue from an offset in the text on, or a table of the catalogue to be analyzed
abbrev pub IsSoundDefinition : Contents → List ℕ → Definition → List ℕ → Type 0
IsSoundDefinition cat text (table name names columns) at = IsSoundTable text name names columns at
IsSoundDefinition cat text (sizes_for t rows pages) at = AreSoundSizes cat text t at
IsSoundDefinition cat text (statistics_for t col s) at = AreSoundStatistics cat text t col s at
IsSoundDefinition cat text (data_for t start) at = IsTable cat t × (start ≤ length text)
IsSoundDefinition cat text (analysis_of t) at = IsTable cat t

-- what is read is sound
abbrev pub IsSound : Contents → List ℕ → Reading → Type 0
IsSound cat text r = IsSoundDefinition cat text r.definition r.at
