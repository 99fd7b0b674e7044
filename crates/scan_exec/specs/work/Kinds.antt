-- The rows that a scan has still to come to, where it stands at a place of its relation's rows or of an index. Own.
use Rattle.std.specs.Prelude.{ℕ, ◌<◌, ◌-◌, true, false, ◌&&◌, Bool, List, [], length, map, slice_index_or, All}
use Rattle.std.specs.List.{range_with_len}
use Rattle.opfamily.specs.KeyOrder.{IndexEntry}
use Rattle.pg_expr.specs.Cond.{Cond}
use Rattle.catalog.specs.Contents.{Contents}
use Rattle.catalog.specs.Indexes.{Index}
use Rattle.catalog.specs.Range.{Range}
use Rattle.heap.specs.Stored.{Values, Stored}
use Rattle.scan_probes.specs.work.Values.{Given, are_true, value_beside, value_in, value_in_entry}
use Rattle.scan_probes.specs.work.Scenes.{AreReadyAtEntry, AreReadyAtRow}
use Rattle.scan_exec.specs.Coming.{Coming}
use Rattle.std.specs.Borrow.{Bor}
use Rattle.pg_base.specs.declared.numbers.Tid.{Tid}
use Rattle.pg_expr.specs.declared.expr.Expr.{Expr}
use Rattle.catalog.specs.work.Entries.{index_of}
use Rattle.catalog.specs.declared.index_def.IndexDef.{IndexDef}
use Rattle.heap.specs.work.TidSets.{TidSet, not_below}
use Rattle.scan_probes.specs.work.Filters.{lent_conditions}
use Rattle.scan_probes.specs.declared.filter.Beside.{Beside}

-- whether conditions are True at a row beside the rows given, and at an entry
abbrev pub passes_row : ℕ → Given → List Cond → Values → Bool
passes_row r given es row = are_true (value_beside r (value_in row) given) es

-- conditions are True at an entry beside the rows given, by the values that the index holds
abbrev pub passes_entry : ℕ → Given → List Cond → Index → IndexEntry → Bool
passes_entry r given es d e = are_true (value_beside r (value_in_entry d e) given) es

-- the row of a number is fetched, and given where the clauses are True
abbrev pub fetched_at : ℕ → Given → List Cond → List Values → ℕ → Coming
fetched_at r given es rows n = record { row = n; looked = false; fetched = true; given = passes_row r given es (slice_index_or rows n []) }

-- the rows of some numbers, in their order
abbrev pub rows_of : ℕ → Given → List Cond → List Values → List ℕ → List Coming
rows_of r given es rows ns = map (fetched_at r given es rows) ns

-- the rows from a place on
abbrev pub rows_from : ℕ → Given → List Cond → List Values → ℕ → List Coming
rows_from r given es rows n = rows_of r given es rows (range_with_len n (length rows - n))

-- an entry that a cursor gives: where it meets the tests its row is fetched, and given where the clauses are True there
abbrev pub entry_at : ℕ → Given → List Cond → List Cond → Index → List Values → IndexEntry → Coming
entry_at r given tests es d rows e = record {
  row = e.row;
  looked = true;
  fetched = passes_entry r given tests d e;
  given = passes_entry r given tests d e && passes_row r given es (slice_index_or rows e.row []);
}

-- an entry that a cursor of an index-only scan gives, without a fetch: the clauses are tested at the entry too
abbrev pub covered_at : ℕ → Given → List Cond → List Cond → Index → IndexEntry → Coming
covered_at r given tests es d e = record {
  row = e.row;
  looked = true;
  fetched = false;
  given = passes_entry r given tests d e && passes_entry r given es d e;
}

-- what stands at the entries of an index: each is of a row, and the tests and clauses can be tested there
pub record IsReadyEntry (c : Contents) (range : Range) (r : ℕ) (given : Given) (tests es : List Cond) (d : Index) (rows : List Values) (e : IndexEntry) : Type 0 where
  pub within : e.row < length rows
  pub entry : AreReadyAtEntry c range r given tests d e
  pub row : AreReadyAtRow c range r given es (slice_index_or rows e.row [])

-- what stands at the entries of an index for an index-only scan: tests and clauses can be tested there, and no row is looked
-- for
pub record IsReadyCover (c : Contents) (range : Range) (r : ℕ) (given : Given) (tests es : List Cond) (d : Index) (e : IndexEntry) : Type 0 where
  pub tested : AreReadyAtEntry c range r given tests d e
  pub clauses : AreReadyAtEntry c range r given es d e

-- what stands at row numbers: each is of a row, and the clauses can be tested there
pub record IsReadyNumber (c : Contents) (range : Range) (r : ℕ) (given : Given) (es : List Cond) (rows : List Values) (n : ℕ) : Type 0 where
  pub within : n < length rows
  pub clauses : AreReadyAtRow c range r given es (slice_index_or rows n [])

-- a relation beside the rows given, and what is lent of the clauses and of the tests
module _ (b : Beside) (given : Given) (clauses : List (Bor Expr)) where
  -- the clauses can be tested at each row of a heap
  abbrev pub AreReadyRows : List Values → Type 0
  AreReadyRows rows = All (AreReadyAtRow b.cat.now b.range.now b.rel.0 given (lent_conditions clauses)) rows

  -- the rows of a heap of these numbers can be fetched and tested
  abbrev pub AreReadyNumbers : List Values → List Tid → Type 0
  AreReadyNumbers rows tids =
      All (IsReadyNumber b.cat.now b.range.now b.rel.0 given (lent_conditions clauses) rows) (map (λ t. t.0) tids)

  -- the rows of a heap
  abbrev pub rows_of_heap : Stored → List Coming
  rows_of_heap heap = rows_from b.rel.0 given (lent_conditions clauses) heap.rows 0

  -- the rows of a heap of these numbers, in their order
  abbrev pub rows_of_tids : Stored → List Tid → List Coming
  rows_of_tids heap tids = rows_of b.rel.0 given (lent_conditions clauses) heap.rows (map (λ t. t.0) tids)

  -- the rows of a heap that a set holds, by their numbers
  abbrev pub rows_of_set : Stored → TidSet → List Coming
  rows_of_set heap held = rows_of b.rel.0 given (lent_conditions clauses) heap.rows (not_below 0 held.members)

module _ (b : Beside) (given : Given) (tests clauses : List (Bor Expr)) (d : IndexDef) where
  -- entries of an index are of rows of a heap, and can be tested
  abbrev pub AreReadyEntries : Stored → List IndexEntry → Type 0
  AreReadyEntries heap es =
      All (IsReadyEntry b.cat.now b.range.now b.rel.0 given (lent_conditions tests) (lent_conditions clauses) (index_of d)
      heap.rows) es

  -- the rows of these entries
  abbrev pub rows_of_entries : Stored → List IndexEntry → List Coming
  rows_of_entries heap es =
      map (entry_at b.rel.0 given (lent_conditions tests) (lent_conditions clauses) (index_of d) heap.rows) es

  -- entries can be tested without their rows
  abbrev pub AreReadyCovers : List IndexEntry → Type 0
  AreReadyCovers es =
      All (IsReadyCover b.cat.now b.range.now b.rel.0 given (lent_conditions tests) (lent_conditions clauses) (index_of d)) es

  -- the rows of these entries, none of which is fetched
  abbrev pub covered_rows : List IndexEntry → List Coming
  covered_rows es = map (covered_at b.rel.0 given (lent_conditions tests) (lent_conditions clauses) (index_of d)) es
