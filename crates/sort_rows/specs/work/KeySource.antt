-- What the keys of tuples are read from. Own.
use Rattle.std.specs.Prelude.{◌<◌, ◌^◌, List, All, ◌≡◌, ◌++◌, Vec, map}
use Rattle.std.specs.Ordering.{on}
use Rattle.std.specs.declared.cmp.Ordering.{Ordering}
use Rattle.pg_base.specs.Sets.{has}
use Rattle.pg_base.specs.declared.numbers.Tid.{Tid}
use Rattle.pg_value.specs.declared.value.Value.{Value}
use Rattle.eq_classes.specs.Holding.{IsWithin}
use Rattle.path_cost.specs.work.Columns.{AreTables}
use Rattle.sql_query.specs.Queries.{all_of_query, Query, width}
use Rattle.sql_query.specs.Tuples.{value_at, Tuple}
use Rattle.sql_query.specs.Worlds.{World, IsWorld, world}
use Rattle.sort_rows.specs.declared.source.KeySource.{KeySource}
use Rattle.sort_rows.specs.work.Columns.{columns_order, key_at, IsSortColumn, lent_key_values}
use Rattle.sort_rows.specs.work.Rows.{tuple_of, AreRowsAt}
use Rattle.std.specs.List.{flat_map}
use Rattle.std.specs.Borrow.{Bor}
use Rattle.std.specs.declared.alloc.Global.{Global}
use Rattle.pg_base.specs.declared.rel_set.RelSet.{RelSet}
use Rattle.pg_value.specs.Sorting.{in_order}
use Rattle.heap.specs.Stored.{Values}
use Rattle.heap.specs.work.Tuples.{TupleList, padded_tuples}
use Rattle.pathkeys.specs.Keys.{Keys}
use Rattle.pathkeys.specs.Sorted.{keys_order}
use Rattle.sort_rows.specs.declared.columns.SortColumn.{SortColumn}

module _ {C F L : Type 0} where
  -- the stored rows
  abbrev pub world_of : KeySource C F L → World
  world_of at = world at.cat.now at.heaps.now

  -- the key of a tuple
  abbrev pub key_of : KeySource C F L → List Tid → List Value
  key_of at row = key_at at.columns.now (value_at (world_of at) at.q.now (tuple_of at.q.now at.set row))

  -- two tuples by the values that their rows have for the keys
  abbrev pub by_key : KeySource C F L → List Tid → List Tid → Ordering
  by_key at = on (key_of at) (columns_order at.columns.now)

  -- a set of relations of a query over a world, and columns of these
  pub record IsKeySource (at : KeySource C F L) : Type 0 where
    pub world : IsWorld (world_of at)
    pub tables : AreTables at.cat.now at.q.now.range
    pub set : IsWithin (has at.set.0) (all_of_query at.q.now)
    pub few : at.set.0 < 2 ^ 16
    pub columns : All (IsSortColumn at.cat.now at.q.now (has at.set.0)) at.columns.now

  -- the keys of the tuples of a list, one after another
  abbrev pub keys_of_all : KeySource C F L → TupleList → List Value
  keys_of_all at input = flat_map (key_of at) input.rows

  -- the key of a tuple stands behind those of a list
  abbrev pub AddsKey : KeySource C F L → List Tid → Vec (Bor Value) Global → Vec (Bor Value) Global → Type 0
  AddsKey at row old new = lent_key_values new.items ≡ lent_key_values old.items ++ key_of at row

  -- the rows that are lent are those of a tuple
  abbrev pub AreRowsRead : KeySource C F L → List Tid → List (Bor Values) → Type 0
  AreRowsRead at row rows = AreRowsAt (world_of at) at.q.now at.set row (map (λ r. r.now) rows)

  -- the tuples of a list in the order of their keys
  abbrev pub in_key_order : KeySource C F L → TupleList → TupleList
  in_key_order at input = record { set = input.set; rows = in_order (by_key at) input.rows }

-- the tuples of a list, in the order of the classes of keys
abbrev pub tuples_by_keys : World → Query → Keys → TupleList → List Tuple
tuples_by_keys w q keys input =
    in_order (keys_order (value_at w q) q.classes (has input.set.0) keys) (padded_tuples (width q) input)

-- a list has the tuples of another one, in the order of the classes of keys
abbrev pub IsInKeyOrder : World → Query → Keys → TupleList → TupleList → Type 0
IsInKeyOrder w q keys input ts = padded_tuples (width q) ts ≡ tuples_by_keys w q keys input

-- values are those of a tuple of a set of relations at columns of them
abbrev pub IsKeyAt : World → Query → RelSet → List SortColumn → List Tid → Vec (Bor Value) Global → Type 0
IsKeyAt w q set cs row key = lent_key_values key.items ≡ key_at cs (value_at w q (tuple_of q set row))
