-- The rows that a table gains, which its indexes lack at first. Own.
use Rattle.std.specs.Prelude.{ℕ, ◌-◌, ◌*◌, List, length, map, slice_index_or}
use Rattle.catalog.specs.Contents.{TableDef, indexes_of, table_at}
use Rattle.heap.specs.Stored.{Stored}
use Rattle.sql_query.specs.Worlds.{nothing_stored}
use Rattle.store.specs.work.Kept.{Built, built_over, first_rows}
use Rattle.store.specs.declared.store.NewRows.{NewRows}

module _ {C F L : Type 0} (rows : NewRows C F L) where
  -- what is stored of their table, with them
  abbrev pub grown_rows : Stored
  grown_rows = slice_index_or rows.heaps.now rows.table.0 nothing_stored

  -- the definition of their table
  abbrev pub grown_table : TableDef
  grown_table = table_at rows.cat.now rows.table

  -- all indexes, built over the rows without them
  abbrev pub built_without : List Built
  built_without = map (built_over (first_rows rows.before rows.table rows.heaps.now)) rows.cat.now.indexes

  -- all indexes, built over all rows
  abbrev pub built_with : List Built
  built_with = map (built_over rows.heaps.now) rows.cat.now.indexes

  -- the looks at them: one at each for each index of their table
  abbrev pub growth_looks : ℕ
  growth_looks = length (indexes_of rows.cat.now rows.table) * (length grown_rows.rows - rows.before)
