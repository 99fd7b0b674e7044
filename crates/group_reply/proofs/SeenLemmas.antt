-- What is seen of a tuple, read from the rows of all relations.
use Rattle.std.proofs.Common.{◌≡◌, ℕ, ◌<◌, List, [], ◌∷◌, length, map, refl, ap, ap₂, ◌∙◌, subst, sym, arith, All, Option, Some, None}
use Rattle.std.proofs.lemmas.List.Elements.{All-head, All-tail}
use Rattle.std.proofs.lemmas.List.FromFn.{get_or-map-range_with_len, length-map-range_with_len}
use Rattle.std.specs.Prelude.{slice_index_or}
use Rattle.pg_base.specs.declared.numbers.TableNo.{TableNo}
use Rattle.pg_value.specs.declared.value.Value.{Value}
use Rattle.pg_value.specs.declared.value.Value.TheVariants.{Null}
use Rattle.pg_expr.specs.declared.operand.ColRef.{ColRef}
use Rattle.heap.specs.Stored.{IsRowOf, IsColumnValue, Values}
use Rattle.catalog.specs.Contents.{Contents, IsTable, no_table, table_at}
use Rattle.catalog.specs.Range.{relation_at}
use Rattle.sort_rows.specs.work.Rows.{relation}
use Rattle.sql_query.specs.Queries.{Query, width}
use Rattle.sql_query.specs.Tuples.{Tuple, row_at, row_of, value_at}
use Rattle.sql_query.specs.WellBound.{IsColumnOf, IsWellBound}
use Rattle.sql_query.specs.Worlds.{Holds, nothing_stored, stored_at, world}
use Rattle.store.specs.work.Kept.{IsStoreOf, Kept}
use Rattle.pg_base.proofs.ListLemmas.{zip-long as zip_long}
use Rattle.pg_base.proofs.ListLemmas.{zip-at as zip_at}
use Rattle.executor.specs.work.Numbers.{IsTupleOf}
use Rattle.group_explain.specs.reply_Showing.{HasColumn, cell_of, rows_at}
use Rattle.group_values.specs.Groups.{Seen}
use Rattle.group_runs.specs.Seen.{arg_at, seen_of}
use Rattle.group_reply.specs.work.Columns.{AreSeenOf, HasArg, IsArgOf, arg_in}

module _ (c : Contents) (k : Kept) (q : Query) (t : Tuple) (bound : IsWellBound c q) (store : IsStoreOf c k) (is : IsTupleOf (world c k.stored) q t) where
  row-is : (r : ℕ) → r < width q → slice_index_or (rows_at (world c k.stored) q t) r [] ≡ row_at (world c k.stored) q t (relation r)
  row-is r lt = get_or-map-range_with_len (λ j. row_at (world c k.stored) q t (relation j)) 0 (width q) r r [] lt (omega arith)

  -- a row of a tuple has a value for each column of its table
  row-wide : (r : ℕ) → r < width q → length (row_at (world c k.stored) q t (relation r)) ≡ length (table_at c (relation_at q.range (relation r)).0).columns
  row-wide r lt =
      let no : TableNo = (relation_at q.range (relation r)).0 in
      let here : IsTable c no = bound.range.tables r (record { 0 = 0 }, []) lt in
      let holds : Holds (table_at c no) (stored_at (world c k.stored) no) = zip_at Holds c.tables k.stored no.0 no_table nothing_stored store.world here in
      let row : IsRowOf (stored_at (world c k.stored) no).columns (row_at (world c k.stored) q t (relation r)) = holds.lawful.each (row_of t r) [] (is.within r lt) in
      zip_long IsColumnValue (stored_at (world c k.stored) no).columns (row_at (world c k.stored) q t (relation r)) row ∙ ap length holds.columns

  -- the columns of the query are of these rows, and their values there are those at the tuple
  column-there : (x : ColRef) → IsColumnOf c q.range x → HasColumn (rows_at (world c k.stored) q t) x
  column-there x of = record {
    relation = omega (arith, of.relation, length-map-range_with_len (λ j. row_at (world c k.stored) q t (relation j)) 0 (width q));
    column = omega (arith, of.column, row-wide x.rel.0 of.relation, ap length (row-is x.rel.0 of.relation));
  }

  value-is : (x : ColRef) → IsColumnOf c q.range x → cell_of (rows_at (world c k.stored) q t) x ≡ value_at (world c k.stored) q t x
  value-is x of = ap (λ (l : Values). slice_index_or l x.col.0 Null) (row-is x.rel.0 of.relation)

  arg-there : (x : Option ColRef) → IsArgOf c q.range x → HasArg (rows_at (world c k.stored) q t) x
  arg-there None of = tt
  arg-there (Some x) of = column-there x of

  arg-is : (x : Option ColRef) → IsArgOf c q.range x → arg_in (rows_at (world c k.stored) q t) x ≡ arg_at (world c k.stored) q t x
  arg-is None of = refl
  arg-is (Some x) of = value-is x of

  values-are : (xs : List ColRef) → All (IsColumnOf c q.range) xs → map (cell_of (rows_at (world c k.stored) q t)) xs ≡ map (value_at (world c k.stored) q t) xs
  values-are [] of = refl
  values-are (x ∷ xs) of =
      ap₂ (λ (v : Value) (l : List Value). v ∷ l) (value-is x (All-head (IsColumnOf c q.range) x xs of)) (values-are xs (All-tail (IsColumnOf c q.range) x xs of))

  args-are : (xs : List (Option ColRef)) → All (IsArgOf c q.range) xs → map (arg_in (rows_at (world c k.stored) q t)) xs ≡ map (arg_at (world c k.stored) q t) xs
  args-are [] of = refl
  args-are (x ∷ xs) of =
      ap₂ (λ (v : Value) (l : List Value). v ∷ l) (arg-is x (All-head (IsArgOf c q.range) x xs of)) (args-are xs (All-tail (IsArgOf c q.range) x xs of))

  module _ (rows : List Values) (same : rows ≡ rows_at (world c k.stored) q t) (xs : List ColRef) (ys : List (Option ColRef)) (of : AreSeenOf c q.range xs ys) where
    pub keys-there : All (HasColumn rows) xs
    keys-there = let P : List Values → Type 0 = λ l. All (HasColumn l) xs in subst P (sym same) (λ i d lt. column-there _ (of.of_groups i d lt))

    pub calls-there : All (HasArg rows) ys
    calls-there = let P : List Values → Type 0 = λ l. All (HasArg l) ys in subst P (sym same) (λ i d lt. arg-there _ (of.of_calls i d lt))

    pub seen-is : (keys args : List Value) → keys ≡ map (cell_of rows) xs → args ≡ map (arg_in rows) ys → seen_of (world c k.stored) q xs ys t ≡ record { keys = keys; args = args }
    seen-is keys args keys_are args_are =
        let made : List Value → List Value → Seen = λ a b. record { keys = a; args = b } in
        sym (ap₂ made (keys_are ∙ ap (λ (l : List Values). map (cell_of l) xs) same ∙ values-are xs of.of_groups) (args_are ∙ ap (λ (l : List Values). map (arg_in l) ys) same ∙ args-are ys of.of_calls))
