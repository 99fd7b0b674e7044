-- What a scan of a relation is given. Own.
use Rattle.std.specs.Prelude.{◌≡◌, ◌<◌, ℕ, Bool, true, ◌&&◌, nat_lt, List, length, IsTrue}
use Rattle.std.specs.List.{AllByRecursion}
use Rattle.pg_base.specs.Sets.{has}
use Rattle.pg_base.specs.declared.numbers.ColNo.{ColNo}
use Rattle.pg_base.specs.declared.numbers.Tid.{Tid}
use Rattle.pg_base.specs.declared.rel_set.RelSet.{RelSet}
use Rattle.pg_value.specs.declared.value.Value.{Value}
use Rattle.opfamily.specs.KeyOrder.{IndexEntry}
use Rattle.pg_expr.specs.declared.operand.ColRef.{ColRef}
use Rattle.pg_expr.specs.Columns.{each_column}
use Rattle.pg_expr.specs.Cond.{Cond}
use Rattle.pg_expr.specs.Typed.{IsTyped}
use Rattle.pg_expr.specs.work.Typed.{FitsTypes}
use Rattle.heap.specs.Stored.{Values}
use Rattle.heap.specs.Tuples.{relation_count}
use Rattle.heap.specs.work.Tuples.{row_number}
use Rattle.catalog.specs.Contents.{Contents}
use Rattle.catalog.specs.work.Entries.{index_of}
use Rattle.catalog.specs.Indexes.{Index}
use Rattle.catalog.specs.Range.{Range, table_of, type_in}
use Rattle.path_cost.specs.work.Columns.{is_column_in}
use Rattle.sql_query.specs.WellBound.{IsWellBound}
use Rattle.sql_query.specs.Queries.{Query}
use Rattle.sql_query.specs.Worlds.{World, IsWorld}
use Rattle.sql_query.specs.Tuples.{rows_of_relation}
use Rattle.scan_probes.specs.work.Values.{Given, value_in, value_in_entry, has_entry_value, value_beside, is_beside}
use Rattle.scan_probes.specs.declared.bound.Own.{Own}
use Rattle.scan_probes.specs.declared.bound.Own.TheVariants.{Row, Entry as InEntry}
use Rattle.scan_probes.specs.declared.bound.Bound.{Bound}

-- a query bound to the catalogue, over what is stored there
pub record IsOverWorld (w : World) (q : Query) : Type 0 where
  pub bound : IsWellBound w.contents q
  pub holds : IsWorld w

-- row numbers of the relations of a set, in FROM order, each that of a row
pub record AreRowsOf (w : World) (q : Query) (set : RelSet) (rows : List Tid) : Type 0 where
  pub each : length rows ≡ relation_count set
  pub within : (k : ℕ) → has set.0 k ≡ true → row_number (has set.0) rows k < length (rows_of_relation w q (record { 0 = k }))

-- a column of a row
abbrev pub is_within : Values → ColNo → Bool
is_within row c = nat_lt c.0 (length row)

-- the value of a column of the scan's relation, and whether there is one
abbrev pub own_value : Own → ColNo → Value
own_value (Row row) c = value_in row.now c
own_value (InEntry d e) c = value_in_entry (index_of d.now) e.now c

-- a column of the relation has a value there: a row has each column, an entry those that its index holds
abbrev pub has_own_value : Own → ColNo → Bool
has_own_value (Row row) c = is_within row.now c
has_own_value (InEntry d e) c = has_entry_value (index_of d.now) e.now c

-- the values of columns there, and the columns that have one
abbrev pub values_at : Bound → ColRef → Value
values_at b x = value_beside b.rel.0 (own_value b.own) b.given.now x

-- a column of the query has a value there: one of the relation by a test, one of another relation in the rows given
abbrev pub binds_at : Contents → Range → ℕ → (ColNo → Bool) → Given → ColRef → Bool
binds_at c range r has given x = is_column_in c range x && (nat_lt (table_of range x).0 (length c.tables) && is_beside r has given x)

-- a column of the query has a value where a scan stands, at a row or at an entry
abbrev pub binds : Contents → Range → Bound → ColRef → Bool
binds c range b = binds_at c range b.rel.0 (has_own_value b.own) b.given.now

-- a condition can be tested where these columns have values: its columns are among them, and it is well typed
pub record IsTestable (c : Contents) (range : Range) (r : ℕ) (has : ColNo → Bool) (given : Given) (e : Cond) : Type 0 where
  pub columns : IsTrue (each_column (binds_at c range r has given) e)
  pub typed : IsTyped (type_in c range) e

-- conditions can be tested at values of a relation's own columns beside rows given: each of them can, and the values are of
-- their columns' types
pub record AreReady (c : Contents) (range : Range) (r : ℕ) (has : ColNo → Bool) (own : ColNo → Value) (given : Given) (es : List Cond) : Type 0 where
  pub testable : AllByRecursion (IsTestable c range r has given) es
  pub values : FitsTypes (type_in c range) (binds_at c range r has given) (value_beside r own given)

-- conditions can be tested at a row of the relation beside the rows given
abbrev pub AreReadyAtRow : Contents → Range → ℕ → Given → List Cond → Values → Type 0
AreReadyAtRow c range r given es row = AreReady c range r (is_within row) (value_in row) given es

-- conditions can be tested at an entry without its row: the index holds each column of the relation that they name
abbrev pub AreReadyAtEntry : Contents → Range → ℕ → Given → List Cond → Index → IndexEntry → Type 0
AreReadyAtEntry c range r given es d e = AreReady c range r (has_entry_value d e) (value_in_entry d e) given es

-- conditions can be tested where a scan stands, at a row or at an entry
abbrev pub AreReadyIn : Bound → List Cond → Type 0
AreReadyIn b es = AreReady b.cat.now b.range.now b.rel.0 (has_own_value b.own) (own_value b.own) b.given.now es
