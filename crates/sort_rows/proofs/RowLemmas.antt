-- The rows of a tuple, relation by relation, and the values of columns in them.
use Rattle.std.proofs.Common.{◌≡◌, ℕ, ◌+◌, ◌<◌, ◌≤◌, ◌^◌, true, false, List, [], ◌∷◌, ◌++◌, length, map, take, get_or, slice_get, slice_index_or, All, Bor, Some, sym, ap, ap₂, ◌∙◌, arith, ⊎_elim, length-append}
use Rattle.std.proofs.lemmas.Bool.{cases_lt, true≢false, ltb-true}
use Rattle.std.proofs.lemmas.List.{get_or_append_left, get_or_default, get_or-map, length-map, take_more, map-append}
use Rattle.std.proofs.Math.Seq.{get_or-append_seam}
use Rattle.std.proofs.lemmas.Option.{get_or_from_slice_get, slice_get-get_or, slice_get_within}
use Rattle.pg_base.specs.Sets.{has}
use Rattle.pg_base.specs.declared.numbers.Tid.{Tid}
use Rattle.pg_base.specs.declared.rel_set.RelSet.{RelSet}
use Rattle.pg_base.proofs.SetLaws.{has-below}
use Rattle.pg_value.specs.declared.value.Value.{Value}
use Rattle.pg_value.specs.declared.value.Value.TheVariants.{Null}
use Rattle.pg_expr.specs.declared.operand.ColRef.{ColRef}
use Rattle.sql_query.specs.catalog_Contents.{table_at, no_table}
use Rattle.sql_query.specs.catalog_Range.{Range, relation_at}
use Rattle.eq_classes.specs.Holding.{IsWithin}
use Rattle.pg_base.specs.declared.numbers.TableNo.{TableNo}
use Rattle.heap.specs.Stored.{Stored, Values}
use Rattle.heap.specs.Tuples.{rank, relation_count}
use Rattle.heap.specs.work.Tuples.{row_number}
use Rattle.heap.proofs.RankLemmas.{rank-zero, rank-in, rank-out}
use Rattle.heap.proofs.PaddingLemmas.{padded-inside}
use Rattle.sql_query.specs.Queries.{Query, all_of_query, width}
use Rattle.sql_query.specs.Tuples.{row_at, rows_of_relation, value_at}
use Rattle.sql_query.specs.Worlds.{World, IsWorld, Holds, stored_at, nothing_stored}
use Rattle.sort_rows.specs.declared.columns.SortColumn.{SortColumn}
use Rattle.sort_rows.specs.work.Columns.{key_at, IsSortColumn}
use Rattle.sort_rows.specs.work.Rows.{relation, tuple_of, AreRowsAt, HasRows}
use Rattle.pg_base.proofs.ListLemmas.{zip-long as zip_long}
use Rattle.pg_base.proofs.ListLemmas.{zip-at as zip_at}
use Rattle.sort_rows.proofs.RankLemmas.{rank-below}

abbrev pub now : Bor Values → Values
now r = r.now

-- the rows of the relations below one
pub record AreRowsBelow (w : World) (q : Query) (set : RelSet) (row : List Tid) (rows : List Values) (r : ℕ) : Type 0 where
  pub count : length rows ≡ rank (has set.0) r
  pub each : (k : ℕ) → k < r → has set.0 k ≡ true → slice_index_or rows (rank (has set.0) k) [] ≡ row_at w q (tuple_of q set row) (relation k)
  pub widths : (k : ℕ) → k < r → has set.0 k ≡ true → length (slice_index_or rows (rank (has set.0) k) []) ≡ length (table_at w.contents (relation_at q.range (relation k)).0).columns

module _ (w : World) (q : Query) (set : RelSet) (row : List Tid) where
  pub rows_none : AreRowsBelow w q set row [] 0
  rows_none = record {
    count = sym (rank-zero (has set.0));
    each = λ k lt is. absurd (omega (arith, lt));
    widths = λ k lt is. absurd (omega (arith, lt));
  }

  pub rows_passed : (rows : List Values) (r : ℕ) → has set.0 r ≡ false → AreRowsBelow w q set row rows r → AreRowsBelow w q set row rows (r + 1)
  rows_passed rows r out is = record {
    count = is.count ∙ sym (rank-out (has set.0) r out);
    each = λ k lt inside. ⊎_elim (λ (before : k < r). is.each k before inside) (λ (at : r ≤ k). absurd (other k lt at inside)) (cases_lt k r);
    widths = λ k lt inside. ⊎_elim (λ (before : k < r). is.widths k before inside) (λ (at : r ≤ k). absurd (other k lt at inside)) (cases_lt k r);
  } where
    other : (k : ℕ) → k < r + 1 → r ≤ k → has set.0 k ≡ true → ⊥
    other k lt at inside = let same : k ≡ r = omega arith in true≢false (sym inside ∙ ap (has set.0) same ∙ out)

  pub rows_read : (rows : List Values) (r : ℕ) (v : Values) → has set.0 r ≡ true → v ≡ row_at w q (tuple_of q set row) (relation r)
      → length v ≡ length (table_at w.contents (relation_at q.range (relation r)).0).columns
      → AreRowsBelow w q set row rows r → AreRowsBelow w q set row (rows ++ v ∷ []) (r + 1)
  rows_read rows r v inside row_is wide is = record {
    count = omega (arith, length-append rows (v ∷ []), is.count, rank-in (has set.0) r inside);
    each = λ k lt in_set. ⊎_elim
        (λ (before : k < r). kept k before in_set ∙ is.each k before in_set)
        (λ (at : r ≤ k). let same : k ≡ r = omega arith in ap (λ j. slice_index_or (rows ++ v ∷ []) (rank (has set.0) j) []) same ∙ last ∙ row_is ∙ ap (λ j. row_at w q (tuple_of q set row) (relation j)) (sym same))
        (cases_lt k r);
    widths = λ k lt in_set. ⊎_elim
        (λ (before : k < r). ap length (kept k before in_set) ∙ is.widths k before in_set)
        (λ (at : r ≤ k). let same : k ≡ r = omega arith in ap (λ j. length (slice_index_or (rows ++ v ∷ []) (rank (has set.0) j) [])) same ∙ ap length last ∙ wide ∙ ap (λ j. length (table_at w.contents (relation_at q.range (relation j)).0).columns) (sym same))
        (cases_lt k r);
  } where
    kept : (k : ℕ) → k < r → has set.0 k ≡ true → slice_index_or (rows ++ v ∷ []) (rank (has set.0) k) [] ≡ slice_index_or rows (rank (has set.0) k) []
    kept k before in_set = get_or_append_left rows (v ∷ []) [] (rank (has set.0) k) (omega (arith, is.count, rank-below (has set.0) k r before in_set))

    last : slice_index_or (rows ++ v ∷ []) (rank (has set.0) r) [] ≡ v
    last = ap (λ j. slice_index_or (rows ++ v ∷ []) j []) (sym is.count) ∙ get_or-append_seam rows v [] []

  pub rows_all : (rows : List Values) → set.0 < 2 ^ 16 → AreRowsBelow w q set row rows 16 → AreRowsAt w q set row rows
  rows_all rows few is = record {
    count = is.count;
    each = λ k inside. is.each k (has-below set.0 k few inside) inside;
    widths = λ k inside. is.widths k (has-below set.0 k few inside) inside;
  }

  -- a row of a heap that was lent
  pub row_lent : (k : ℕ) (heap : Stored) (v : Values) → k < width q → has set.0 k ≡ true → slice_get w.stored (relation_at q.range (relation k)).0.0 ≡ Some heap
      → slice_get heap.rows (row_number (has set.0) row k) ≡ Some v → v ≡ row_at w q (tuple_of q set row) (relation k)
  row_lent k heap v lt inside lent found =
      sym (ap₂ (λ (s : Stored) (n : ℕ). slice_index_or s.rows n []) (get_or_from_slice_get w.stored (relation_at q.range (relation k)).0.0 heap nothing_stored lent) (padded-inside (width q) (has set.0) row k lt inside)
      ∙ get_or_from_slice_get heap.rows (row_number (has set.0) row k) v [] found)

  pub rows_lent : (k : ℕ) (heap : Stored) → slice_get w.stored (relation_at q.range (relation k)).0.0 ≡ Some heap → rows_of_relation w q (relation k) ≡ heap.rows
  rows_lent k heap lent = ap (λ (s : Stored). s.rows) (get_or_from_slice_get w.stored (relation_at q.range (relation k)).0.0 heap nothing_stored lent)

  pub columns_lent : (k : ℕ) (heap : Stored) → IsWorld w → slice_get w.stored (relation_at q.range (relation k)).0.0 ≡ Some heap
      → length heap.columns ≡ length (table_at w.contents (relation_at q.range (relation k)).0).columns
  columns_lent k heap is lent =
      let n = (relation_at q.range (relation k)).0.0 in
      let within : n < length w.contents.tables = omega (arith, slice_get_within w.stored n heap lent, zip_long Holds w.contents.tables w.stored is) in
      let holds : Holds (table_at w.contents (relation_at q.range (relation k)).0) (stored_at w (relation_at q.range (relation k)).0) = zip_at Holds w.contents.tables w.stored n no_table nothing_stored is within in
      ap (λ (s : Stored). length s.columns) (sym (get_or_from_slice_get w.stored n heap nothing_stored lent)) ∙ ap length holds.columns

  -- the value of a column in the row of its relation
  pub value_is : (rows : List Values) (s : SortColumn) (r : Values) (v : Value) → AreRowsAt w q set row rows → IsSortColumn w.contents q (has set.0) s
      → slice_get rows s.place ≡ Some r → slice_get r s.column.col.0 ≡ Some v → v ≡ value_at w q (tuple_of q set row) s.column
  value_is rows s r v are is at found =
      let there : r ≡ row_at w q (tuple_of q set row) s.column.rel = sym (get_or_from_slice_get rows s.place r [] at) ∙ ap (λ n. slice_index_or rows n []) is.place ∙ are.each s.column.rel.0 is.inside in
      sym (ap (λ (l : Values). slice_index_or l s.column.col.0 Null) (sym there) ∙ get_or_from_slice_get r s.column.col.0 v Null found)

  -- the place of a column's relation is one of the rows at hand
  pub place_within : (rows : List Values) (s : SortColumn) → set.0 < 2 ^ 16 → AreRowsAt w q set row rows → IsSortColumn w.contents q (has set.0) s → s.place < length rows
  place_within rows s few are is = omega (arith, is.place, are.count, rank-below (has set.0) s.column.rel.0 16 (has-below set.0 s.column.rel.0 few is.inside) is.inside)

  pub column_within : (rows : List Values) (s : SortColumn) (r : Values) → AreRowsAt w q set row rows → IsSortColumn w.contents q (has set.0) s → r ≡ slice_index_or rows s.place [] → s.column.col.0 < length r
  column_within rows s r are is at =
      omega (arith, is.column.column, ap length at, ap (λ n. length (slice_index_or rows n [])) is.place, are.widths s.column.rel.0 is.inside)

-- the next relation of the set, whose heap was lent by the table that the query has for it
module _ (w : World) (q : Query) (set : RelSet) (row : List Tid) (rows : List Values) (r n : ℕ) (range : Range) (x : TableNo × List ℕ) (heap : Stored)
    (below : AreRowsBelow w q set row rows r) (inside : has set.0 r ≡ true) (within : IsWithin (has set.0) (all_of_query q))
    (count : n ≡ length rows) (range_is : range ≡ q.range) (is : x ≡ get_or range r x) (lent : slice_get w.stored x.0.0 ≡ Some heap) where
  relation_within : r < width q
  relation_within = ltb-true r (width q) (within r inside)

  relation_is : relation_at q.range (relation r) ≡ x
  relation_is = ap (λ (l : Range). relation_at l (relation r)) (sym range_is) ∙ get_or_default range r (record { 0 = 0 }, []) x (omega (arith, relation_within, ap length range_is)) ∙ sym is

  heap_is : slice_get w.stored (relation_at q.range (relation r)).0.0 ≡ Some heap
  heap_is = ap (λ (y : TableNo × List ℕ). slice_get w.stored y.0.0) relation_is ∙ lent

  place_is : n ≡ rank (has set.0) r
  place_is = count ∙ below.count

  pub next_number : HasRows w q (has set.0) row → (slice_index_or row n (record { 0 = 0 })).0 < length heap.rows
  next_number have =
      omega (arith, have r inside, ap length (rows_lent w q set row r heap heap_is), ap (λ j. (slice_index_or row j (record { 0 = 0 })).0) place_is)

  pub next_row : (v : Values) → IsWorld w → slice_get heap.rows (slice_index_or row n (record { 0 = 0 })).0 ≡ Some v → length v ≡ length heap.columns → AreRowsBelow w q set row (rows ++ v ∷ []) (r + 1)
  next_row v world found wide =
      rows_read w q set row rows r v inside
      (row_lent w q set row r heap v relation_within inside heap_is (ap (λ j. slice_get heap.rows (slice_index_or row j (record { 0 = 0 })).0) (sym place_is) ∙ found))
      (wide ∙ columns_lent w q set row r heap world heap_is) below

  pub next_within : r < 16 → length row ≡ relation_count set → n < length row
  next_within lt wide = omega (arith, place_is, rank-below (has set.0) r 16 lt inside, wide)

-- one more value of a key
pub key_more : (cs : List SortColumn) (value : ColRef → Value) (i : ℕ) (d : SortColumn) (v : Value) (key : List Value) → i < length cs → key ≡ key_at (take i cs) value → v ≡ value (get_or cs i d).column
    → key ++ v ∷ [] ≡ key_at (take (i + 1) cs) value
key_more cs value i d v key lt before is =
    ap₂ (λ (l : List Value) (u : Value). l ++ u ∷ []) before is
    ∙ sym (map-append (λ (c : SortColumn). value c.column) (take i cs) (get_or cs i d ∷ []))
    ∙ ap (map (λ (c : SortColumn). value c.column)) (sym (take_more cs i d lt))

-- the columns of a key, one after another
module _ (w : World) (q : Query) (set : RelSet) (row : List Tid) (rows : List (Bor Values)) (are : AreRowsAt w q set row (map now rows)) (cs : List SortColumn) (columns : All (IsSortColumn w.contents q (has set.0)) cs)
    (few : set.0 < 2 ^ 16) (i : ℕ) (d : SortColumn) (lt : i < length cs) where
  column_is : IsSortColumn w.contents q (has set.0) (get_or cs i d)
  column_is = columns i d lt

  pub key_place : (get_or cs i d).place < length rows
  key_place = omega (arith, place_within w q set row (map now rows) (get_or cs i d) few are column_is, length-map rows now)

  row_is : (e r : Bor Values) → r ≡ get_or rows (get_or cs i d).place e → r.now ≡ slice_index_or (map now rows) (get_or cs i d).place []
  row_is e r is = ap now is ∙ sym (get_or-map now rows (get_or cs i d).place e [] key_place)

  pub key_within : (e r : Bor Values) → r ≡ get_or rows (get_or cs i d).place e → (get_or cs i d).column.col.0 < length r.now
  key_within e r is = column_within w q set row (map now rows) (get_or cs i d) r.now are column_is (row_is e r is)

  pub key_next : (e r : Bor Values) (v : Value) (key : List Value) → r ≡ get_or rows (get_or cs i d).place e → slice_get r.now (get_or cs i d).column.col.0 ≡ Some v
      → key ≡ key_at (take i cs) (value_at w q (tuple_of q set row)) → key ++ v ∷ [] ≡ key_at (take (i + 1) cs) (value_at w q (tuple_of q set row))
  key_next e r v key is found before =
      key_more cs (value_at w q (tuple_of q set row)) i d v key lt before
      (value_is w q set row (map now rows) (get_or cs i d) r.now v are column_is (slice_get_read' (map now rows) (get_or cs i d).place r.now (omega (arith, key_place, length-map rows now)) (row_is e r is)) found) where
        slice_get_read' : (xs : List Values) (n : ℕ) (x : Values) → n < length xs → x ≡ slice_index_or xs n [] → slice_get xs n ≡ Some x
        slice_get_read' xs n x within at = slice_get-get_or xs n [] within ∙ ap Some (sym at)
