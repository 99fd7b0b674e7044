-- The relations of a query (PostgreSQL manual, chapter Table Expressions, The FROM Clause; the limit is own).
use Rattle.std.specs.Prelude.{◌<◌, ◌≤◌, ℕ, List, [], length, map, All, slice_index_or}
use Rattle.pg_base.specs.declared.limits.TheConstants.{MOST_RELATIONS}
use Rattle.pg_base.specs.declared.numbers.RelNo.{RelNo}
use Rattle.pg_base.specs.declared.numbers.TableNo.{TableNo}
use Rattle.pg_base.specs.Names.{IsName, AreDistinct}
use Rattle.opfamily.specs.pg_value_columns_Column.{Column}
use Rattle.opfamily.specs.pg_value_value_SqlType.{SqlType}
use Rattle.pg_expr.specs.declared.operand.ColRef.{ColRef}
use Rattle.catalog.specs.Indexes.{no_column}
use Rattle.catalog.specs.Contents.{Contents, IsTable, table_at}

-- the relations in FROM order: the table and the alias of each
abbrev pub Range : Type 0
Range = List (TableNo × List ℕ)

-- the relation of a number
abbrev pub relation_at : Range → RelNo → TableNo × List ℕ
relation_at range r = slice_index_or range r.0 (record { 0 = 0 }, [])

-- the table of a column's relation, the column there, and its type
abbrev pub table_of : Range → ColRef → TableNo
table_of range x = (relation_at range x.rel).0

-- what the column's table declares of it: its type, and whether it is NOT NULL (pg_attribute)
abbrev pub column_at : Contents → Range → ColRef → Column
column_at c range x = slice_index_or (table_at c (table_of range x)).columns x.col.0 no_column

-- the declared type of a column of the query
abbrev pub type_in : Contents → Range → ColRef → SqlType
type_in c range x = (column_at c range x).typed

-- the aliases in FROM order
abbrev pub aliases : Range → List (List ℕ)
aliases range = map (λ r. r.1) range

-- the relations of a query over a catalogue: 1 to MOST_RELATIONS, each of a table there, and no two under the same name
pub record IsRange (c : Contents) (range : Range) : Type 0 where
  pub some : 0 < length range
  pub few : length range ≤ MOST_RELATIONS
  pub tables : All (λ r. IsTable c r.0) range
  pub names : All (λ r. IsName r.1) range
  pub distinct : AreDistinct (aliases range)
