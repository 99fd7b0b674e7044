-- The rows of all relations at a tuple, and their values. Own.
use Rattle.std.specs.Prelude.{◌<◌, List, [], length, map, slice_index_or}
use Rattle.std.specs.List.{range_with_len}
use Rattle.pg_value.specs.declared.value.Value.{Value}
use Rattle.pg_value.specs.declared.value.Value.TheVariants.{Null}
use Rattle.pg_expr.specs.declared.operand.ColRef.{ColRef}
use Rattle.heap.specs.Stored.{Values}
use Rattle.sql_query.specs.Queries.{Query, width}
use Rattle.sql_query.specs.Worlds.{World}
use Rattle.sql_query.specs.Tuples.{Tuple, row_at}
use Rattle.sort_rows.specs.work.Rows.{relation}

-- the rows of all relations at a tuple, in FROM order
abbrev pub rows_at : World → Query → Tuple → List Values
rows_at w q t = map (λ k. row_at w q t (relation k)) (range_with_len 0 (width q))

-- a column of one of these rows
pub record HasColumn (rows : List Values) (x : ColRef) : Type 0 where
  pub relation : x.rel.0 < length rows
  pub column : x.col.0 < length (slice_index_or rows x.rel.0 [])

-- the value of a column in one of these rows
abbrev pub cell_of : List Values → ColRef → Value
cell_of rows x = slice_index_or (slice_index_or rows x.rel.0 []) x.col.0 Null
