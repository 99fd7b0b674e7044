-- The rows looked at for a tuple, relation by relation, and the values of columns in them.
use Rattle.std.proofs.Common.{◌≡◌, ℕ, ◌+◌, ◌<◌, List, [], ◌∷◌, ◌++◌, length, map, take, get_or, slice_get, slice_index_or, All, Bor, Some, sym, ap, ap₂, ◌∙◌, arith, subst, refl}
use Rattle.std.specs.List.{range_with_len}
use Rattle.std.proofs.lemmas.List.{get_or_default, get_or-map, length-map, map-append, take_more}
use Rattle.std.proofs.lemmas.List.Elements.{All-head, All-tail}
use Rattle.std.proofs.lemmas.List.FromFn.{get_or-map-range_with_len, length-map-range_with_len, map-range_with_len_more}
use Rattle.std.proofs.lemmas.Option.{get_or_from_slice_get}
use Rattle.pg_base.specs.declared.numbers.TableNo.{TableNo}
use Rattle.pg_base.specs.declared.numbers.Tid.{Tid}
use Rattle.pg_value.specs.declared.value.SqlType.{SqlType}
use Rattle.pg_value.specs.declared.value.Value.{Value}
use Rattle.pg_value.specs.declared.value.Value.TheVariants.{Null}
use Rattle.pg_expr.specs.declared.operand.ColRef.{ColRef}
use Rattle.heap.specs.Stored.{IsRowOf, IsColumnValue, Stored, Values}
use Rattle.eq_classes.specs.work.Holding.{Fits}
use Rattle.reply_text.specs.work.Printed.{ArePrintable}
use Rattle.reply_text.proofs.PrintedLemmas.{fits-printable}
use Rattle.reply.specs.Answers.{shown_types}
use Rattle.catalog.specs.Contents.{Contents, IsTable, no_table, table_at}
use Rattle.catalog.specs.Range.{Range, relation_at, type_in}
use Rattle.sort_rows.specs.work.Rows.{relation}
use Rattle.sql_query.specs.Meaning.{shown}
use Rattle.sql_query.specs.Queries.{Query, width}
use Rattle.sql_query.specs.Tuples.{Tuple, row_at, row_of, rows_of_relation, value_at}
use Rattle.sql_query.specs.WellBound.{IsColumnOf, IsWellBound}
use Rattle.sql_query.specs.Worlds.{Holds, stored_at, nothing_stored, world}
use Rattle.executor.specs.store_work_Kept.{IsStoreOf, Kept}
use Rattle.pg_base.proofs.ListLemmas.{zip-long as zip_long}
use Rattle.pg_base.proofs.ListLemmas.{zip-at as zip_at}
use Rattle.executor.specs.work.Numbers.{IsTupleOf, numbers}
use Rattle.reply.specs.work.Showing.{HasColumn, cell_of, rows_at}

abbrev pub now : Bor Values → Values
now r = r.now

-- a relation of a query, as it is read
module _ (c : Contents) (k : Kept) (q : Query) (items : Range) (n : ℕ) (d : TableNo × List ℕ) (same : items ≡ q.range) (lt : n < length items) where
  table_is : (get_or items n d).0 ≡ (relation_at q.range (relation n)).0
  table_is =
      ap (λ (r : TableNo × List ℕ). r.0) (get_or_default items n d (record { 0 = 0 }, []) lt ∙ ap (λ (l : Range). get_or l n (record { 0 = 0 }, [])) same)

  pub inside : n < width q
  inside = omega (arith, lt, ap (λ (l : Range). length l) same)

  -- its table is stored
  pub stored_within : IsWellBound c q → IsStoreOf c k → (get_or items n d).0.0 < length k.stored
  stored_within bound store =
      let here = inside in
      let is : IsTable c (relation_at q.range (relation n)).0 = bound.range.tables n (record { 0 = 0 }, []) here in
      omega (arith, is, zip_long Holds c.tables k.stored store.world, ap (λ (t : TableNo). t.0) table_is)

  -- the rows of its heap
  pub rows_lent : (heap : Stored) → slice_get k.stored (get_or items n d).0.0 ≡ Some heap → rows_of_relation (world c k.stored) q (relation n) ≡ heap.rows
  rows_lent heap lent =
      ap (λ (t : TableNo). (stored_at (world c k.stored) t).rows) (sym table_is)
      ∙ ap (λ (s : Stored). s.rows) (get_or_from_slice_get k.stored (get_or items n d).0.0 heap nothing_stored lent)

  -- the number of its row in a tuple, and that row
  number_is : (t : List Tid) (e : Tid) → IsTupleOf (world c k.stored) q (numbers t) → row_of (numbers t) n ≡ (get_or t n e).0
  number_is t e is =
      let here = inside in
      get_or-map (λ (x : Tid). x.0) t n e 0 (omega (arith, here, is.each, length-map t (λ (x : Tid). x.0)))

  pub row_within : (t : List Tid) (e : Tid) (heap : Stored) → IsTupleOf (world c k.stored) q (numbers t) → slice_get k.stored (get_or items n d).0.0 ≡ Some heap
      → (get_or t n e).0 < length heap.rows
  row_within t e heap is lent =
      let here = is.within n inside in
      omega (arith, here, number_is t e is, ap (λ (l : List Values). length l) (rows_lent heap lent))

  pub row_lent : (t : List Tid) (e : Tid) (heap : Stored) (v : Values) → IsTupleOf (world c k.stored) q (numbers t) → slice_get k.stored (get_or items n d).0.0 ≡ Some heap
      → slice_get heap.rows (get_or t n e).0 ≡ Some v → v ≡ row_at (world c k.stored) q (numbers t) (relation n)
  row_lent t e heap v is lent found =
      sym (ap₂ (λ (l : List Values) (m : ℕ). get_or l m []) (rows_lent heap lent) (number_is t e is) ∙ get_or_from_slice_get heap.rows (get_or t n e).0 v [] found)

-- one more row
pub rows_more : (f : ℕ → Values) (old new : List (Bor Values)) (r : Bor Values) (n : ℕ) → new ≡ old ++ r ∷ [] → r.now ≡ f n
    → map now old ≡ map f (range_with_len 0 n) → map now new ≡ map f (range_with_len 0 (n + 1))
rows_more f old new r n pushed is before =
    ap (map now) pushed ∙ map-append now old (r ∷ []) ∙ ap₂ (λ (l : List Values) (v : Values). l ++ v ∷ []) before is ∙ sym (map-range_with_len_more f 0 n n (omega arith))

-- one more value
pub values_more : (old new : List (Bor Value)) (v : Bor Value) (rows : List Values) (columns : List ColRef) (i : ℕ) (d : ColRef) (r : Values) → i < length columns
    → new ≡ old ++ v ∷ [] → r ≡ slice_index_or rows (get_or columns i d).rel.0 [] → slice_get r (get_or columns i d).col.0 ≡ Some v.now
    → map (λ (x : Bor Value). x.now) old ≡ map (cell_of rows) (take i columns) → map (λ (x : Bor Value). x.now) new ≡ map (cell_of rows) (take (i + 1) columns)
values_more old new v rows columns i d r lt pushed at found before =
    let value : v.now ≡ cell_of rows (get_or columns i d) = sym (get_or_from_slice_get r (get_or columns i d).col.0 v.now Null found) ∙ ap (λ (l : Values). slice_index_or l (get_or columns i d).col.0 Null) at in
    ap (map (λ (x : Bor Value). x.now)) pushed ∙ map-append (λ (x : Bor Value). x.now) old (v ∷ [])
    ∙ ap₂ (λ (l : List Value) (x : Value). l ++ x ∷ []) before value
    ∙ sym (ap (map (cell_of rows)) (take_more columns i d lt) ∙ map-append (cell_of rows) (take i columns) (get_or columns i d ∷ []))

-- a row read from the list of them, for a column
pub row_read : (rows : List (Bor Values)) (columns : List ColRef) (i : ℕ) (d : ColRef) (r : Bor Values) → All (HasColumn (map now rows)) columns → i < length columns
    → r ≡ get_or rows (get_or columns i d).rel.0 r → r.now ≡ slice_index_or (map now rows) (get_or columns i d).rel.0 []
row_read rows columns i d r there lt at =
    ap now at ∙ sym (get_or-map now rows (get_or columns i d).rel.0 r [] (omega (arith, (there i d lt).relation, length-map rows now)))

module _ (c : Contents) (k : Kept) (q : Query) (t : Tuple) (bound : IsWellBound c q) (store : IsStoreOf c k) (is : IsTupleOf (world c k.stored) q t) where
  row_is : (r : ℕ) → r < width q → slice_index_or (rows_at (world c k.stored) q t) r [] ≡ row_at (world c k.stored) q t (relation r)
  row_is r lt = get_or-map-range_with_len (λ j. row_at (world c k.stored) q t (relation j)) 0 (width q) r r [] lt (omega arith)

  -- a row of a tuple has a value for each column of its table
  row_wide : (r : ℕ) → r < width q → length (row_at (world c k.stored) q t (relation r)) ≡ length (table_at c (relation_at q.range (relation r)).0).columns
  row_wide r lt =
      let no : TableNo = (relation_at q.range (relation r)).0 in
      let here : IsTable c no = bound.range.tables r (record { 0 = 0 }, []) lt in
      let holds : Holds (table_at c no) (stored_at (world c k.stored) no) = zip_at Holds c.tables k.stored no.0 no_table nothing_stored store.world here in
      let row : IsRowOf (stored_at (world c k.stored) no).columns (row_at (world c k.stored) q t (relation r)) = holds.lawful.each (row_of t r) [] (is.within r lt) in
      zip_long IsColumnValue (stored_at (world c k.stored) no).columns (row_at (world c k.stored) q t (relation r)) row ∙ ap length holds.columns

  -- the columns of the query are of these rows
  column_there : (x : ColRef) → IsColumnOf c q.range x → HasColumn (rows_at (world c k.stored) q t) x
  column_there x of = record {
    relation = omega (arith, of.relation, length-map-range_with_len (λ j. row_at (world c k.stored) q t (relation j)) 0 (width q));
    column = omega (arith, of.column, row_wide x.rel.0 of.relation, ap length (row_is x.rel.0 of.relation));
  }

  pub columns_there : (rows : List Values) (xs : List ColRef) → rows ≡ rows_at (world c k.stored) q t → xs ≡ q.select → All (IsColumnOf c q.range) q.select
      → All (HasColumn rows) xs
  columns_there rows xs same selected of =
      let P : List Values → Type 0 = λ l. All (HasColumn l) xs in
      let R : List ColRef → Type 0 = λ l. All (HasColumn (rows_at (world c k.stored) q t)) l in
      subst P (sym same) (subst R (sym selected) (λ i d lt. column_there (get_or q.select i d) (of i d lt)))

  -- the values of some columns are those at the tuple
  values_in : (xs : List ColRef) → All (IsColumnOf c q.range) xs → map (cell_of (rows_at (world c k.stored) q t)) xs ≡ map (value_at (world c k.stored) q t) xs
  values_in [] of = refl
  values_in (x ∷ xs) of =
      ap₂ (λ (v : Value) (l : List Value). v ∷ l)
      (ap (λ (l : Values). slice_index_or l x.col.0 Null) (row_is x.rel.0 (All-head (IsColumnOf c q.range) x xs of).relation))
      (values_in xs (All-tail (IsColumnOf c q.range) x xs of))

  pub shown_by : (rows : List Values) (xs : List ColRef) → rows ≡ rows_at (world c k.stored) q t → xs ≡ q.select → All (IsColumnOf c q.range) q.select
      → map (cell_of rows) xs ≡ shown (world c k.stored) q t
  shown_by rows xs same selected of =
      ap₂ (λ (l : List Values) (ys : List ColRef). map (cell_of l) ys) same selected ∙ values_in q.select of

  -- the values that are shown can be printed by their columns' types
  pub shown_printable : (rows : List Values) (xs : List ColRef) → rows ≡ rows_at (world c k.stored) q t → xs ≡ q.select → All (IsColumnOf c q.range) q.select
      → (types : List SqlType) → types ≡ shown_types c q → Fits (type_in c q.range) (value_at (world c k.stored) q t) → ArePrintable types (map (cell_of rows) xs)
  shown_printable rows xs same selected of types typed fits =
      let P : List SqlType → Type 0 = λ ts. ArePrintable ts (map (cell_of rows) xs) in
      let Q : List Value → Type 0 = λ vs. ArePrintable (shown_types c q) vs in
      subst P (sym typed) (subst Q (sym (shown_by rows xs same selected of)) (fits-printable (type_in c q.range) (value_at (world c k.stored) q t) fits q.select))
