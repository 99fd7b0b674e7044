-- A table has a row, and what is taken to be known of its columns is lawful.
use Rattle.std.proofs.Common.{◌≡◌, ◌≤◌, ℕ, refl, arith, IsTrue, Option, Some, None}
use Rattle.std.proofs.lemmas.Bool.Decides.{nat_tests}
use Rattle.std.proofs.lemmas.Grind.{common_steps}
use Rattle.pg_base.specs.declared.numbers.TableNo.{TableNo}
use Rattle.pg_expr.specs.declared.operand.ColRef.{ColRef}
use Rattle.catalog.specs.Contents.{AreSizes, Contents, IsLawful, IsTable, no_table, table_at}
use Rattle.catalog.specs.Range.{Range, table_of, type_in}
use Rattle.catalog.specs.Statistics.{IsLawfulStatistics, Statistics}
use Rattle.catalog.specs.Tables.{rows_by, rows_of}
use Rattle.catalog.specs.declared.table.Sizes.{Sizes}
use Rattle.path_cost.specs.Columns.{known_statistics, stats_of, stats_or}
use Rattle.path_cost.specs.work.Columns.{AreTables, is_column_in}
use Rattle.path_cost.proofs.ColumnLemmas.{column_laws, stats_lawful, unknown_lawful}

-- a table has a row
pub some-sized : (loaded : ℕ) (sizes : Option Sizes) → AreSizes sizes → 1 ≤ rows_by loaded sizes
some-sized loaded None h = omega arith
some-sized loaded (Some s) h = grind (arith, nat_tests, common_steps, h.rows)

pub rows-some : (c : Contents) (t : TableNo) → IsLawful c → IsTable c t → 1 ≤ rows_of c t
rows-some c t h there = some-sized (table_at c t).loaded (table_at c t).sizes (h.tables t.0 no_table there).sizes

-- what is taken to be known of a column is lawful
pub known-lawful : (c : Contents) (range : Range) → IsLawful c → AreTables c range → (x : ColRef) → IsTrue (is_column_in c range x) → IsLawfulStatistics (type_in c range x) (stats_of c range x)
known-lawful c range lawful tables x h = by (known_statistics c range x) refl
  where
    by : (o : Option Statistics) → known_statistics c range x ≡ o → IsLawfulStatistics (type_in c range x) (stats_or (rows_of c (table_of range x)) o)
    by None e = unknown_lawful (type_in c range x) (rows_of c (table_of range x)) (rows-some c (table_of range x) lawful (column_laws c range x tables h).1)
    by (Some s) e = stats_lawful c (table_of range x) x.col s lawful (column_laws c range x tables h).1 e
