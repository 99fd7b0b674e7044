-- A stable sort of tuples by their keys is one of the tuples by the classes.
use Rattle.std.proofs.Common.{◌≡◌, ◌<◌, Bool, true, false, cond, List, [], ◌∷◌, ◌++◌, ◌+◌, ℕ, Some, length, map, get_or, slice_get, slice_index_or, take, All, refl, sym, ap, ap₂, ◌∙◌, Ordering}
use Rattle.std.specs.List.{AllByRecursion as Each, flat_map}
use Rattle.std.specs.Ordering.{int_cmp, is_gt, on, ordering_then}
use Rattle.std.proofs.lemmas.Cmp.{on_total}
use Rattle.std.proofs.lemmas.List.{length-map, map_push, take_more}
use Rattle.std.proofs.lemmas.Option.{get_or_from_slice_get}
use Rattle.std.proofs.lemmas.List.Elements.{All-from_recursion, recursion_from_All}
use Rattle.pg_base.specs.Sets.{has}
use Rattle.pg_base.specs.declared.numbers.Tid.{Tid}
use Rattle.pg_base.specs.declared.rel_set.RelSet.{RelSet}
use Rattle.pg_value.specs.declared.value.Value.{Value}
use Rattle.pg_value.specs.Sorting.{put, in_order}
use Rattle.pg_value.proofs.SortingLemmas.{All-in_order}
use Rattle.pg_expr.specs.declared.operand.ColRef.{ColRef}
use Rattle.pathkeys.specs.Keys.{Keys}
use Rattle.pathkeys.specs.Sorted.{keys_order}
use Rattle.sql_query.specs.Queries.{Query}
use Rattle.sql_query.specs.Tuples.{value_at}
use Rattle.sql_query.specs.Worlds.{World}
use Rattle.sort_rows.specs.declared.columns.SortColumn.{SortColumn}
use Rattle.sort_rows.specs.declared.sort.Keyed.{Keyed}
use Rattle.sort_rows.specs.work.Columns.{sorted_columns, columns_order, key_at}
use Rattle.sort_rows.specs.work.Keyed.{key_in, keyed_order, rows_keyed, run_at, AreKeyed, IsKeyed}
use Rattle.sort_rows.specs.work.Rows.{tuple_of}
use Rattle.sort_rows.proofs.ColumnLemmas.{columns_compare}
use Rattle.sort_rows.proofs.LeadLemmas.{leads_first}
use Rattle.sort_rows.proofs.ListLemmas.{piece_at}
use Rattle.sort_rows.proofs.OrderLemmas.{columns_total, keyed_total}

-- a sort of elements with a property, by an order that is another one's of what they stand for
module _ {X Y : Type 0} (P : X → Type 0) (order : X → X → Ordering) (other : Y → Y → Ordering) (f : X → Y) (same : (x y : X) → P x → P y → order x y ≡ other (f x) (f y)) where
  turned : (x y : X) (ys : List X) → map f (put order x ys) ≡ put other (f x) (map f ys) → (b : Bool)
      → map f (cond b (y ∷ put order x ys) (x ∷ y ∷ ys)) ≡ cond b (f y ∷ put other (f x) (map f ys)) (f x ∷ f y ∷ map f ys)
  turned x y ys later true = ap (λ us. f y ∷ us) later
  turned x y ys later false = refl

  map-put : (x : X) (xs : List X) → P x → Each P xs → map f (put order x xs) ≡ put other (f x) (map f xs)
  map-put x [] p h = refl
  map-put x (y ∷ ys) p h =
      turned x y ys (map-put x ys p h.1) (is_gt (order x y))
      ∙ ap (λ b. cond b (f y ∷ put other (f x) (map f ys)) (f x ∷ f y ∷ map f ys)) (ap is_gt (same x y p h.0))

  pub map-in_order : ((xs : List X) → Each P xs → Each P (in_order order xs)) → (xs : List X) → Each P xs → map f (in_order order xs) ≡ in_order other (map f xs)
  map-in_order kept [] h = refl
  map-in_order kept (x ∷ xs) h = map-put x (in_order order xs) h.0 (kept xs h.1) ∙ ap (put other (f x)) (map-in_order kept xs h.1)

-- places in a list of tuples, sorted by the keys of these, which stand in one list
module _ (cs : List SortColumn) (key : List Tid → List Value) (wide : (row : List Tid) → length (key row) ≡ length cs) (rows : List (List Tid)) (keys : List Value) (keys_are : keys ≡ flat_map key rows) where
  abbrev row_at : Keyed → List Tid
  row_at k = slice_index_or rows k.place []

  key_is : (k : Keyed) → IsKeyed cs keys (length rows) k → key_in cs keys k ≡ key (row_at k)
  key_is k is = ap (λ (vs : List Value). run_at vs (length cs) k.place) keys_are ∙ piece_at key (length cs) wide rows k.place [] is.within

  compare_alike : (x y : Keyed) → IsKeyed cs keys (length rows) x → IsKeyed cs keys (length rows) y → keyed_order cs keys x y ≡ columns_order cs (key (row_at x)) (key (row_at y))
  compare_alike x y p r =
      ap₂ (λ m n. ordering_then (int_cmp m n) (columns_order cs (key_in cs keys x) (key_in cs keys y))) p.lead r.lead
      ∙ leads_first cs (key_in cs keys x) (key_in cs keys y)
      ∙ ap₂ (columns_order cs) (key_is x p) (key_is y r)

  kept : (items : List Keyed) → AreKeyed cs keys (length rows) items → AreKeyed cs keys (length rows) (in_order (keyed_order cs keys) items)
  kept items are = All-in_order (keyed_order cs keys) (keyed_total cs keys) (IsKeyed cs keys (length rows)) items are

  module _ (items : List Keyed) (are : AreKeyed cs keys (length rows) items) where
    pub places_within : All (λ (k : Keyed). k.place < length rows) (in_order (keyed_order cs keys) items)
    places_within = λ i d lt. (kept items are i d lt).within

    pub rows_sorted : rows_keyed rows items ≡ rows → rows_keyed rows (in_order (keyed_order cs keys) items) ≡ in_order (on key (columns_order cs)) rows
    rows_sorted all =
        map-in_order (IsKeyed cs keys (length rows)) (keyed_order cs keys) (on key (columns_order cs)) row_at compare_alike
        (λ xs h. recursion_from_All (IsKeyed cs keys (length rows)) (in_order (keyed_order cs keys) xs) (kept xs (All-from_recursion (IsKeyed cs keys (length rows)) xs h)))
        items (recursion_from_All (IsKeyed cs keys (length rows)) items are)
        ∙ ap (in_order (on key (columns_order cs))) all

-- tuples sorted by their keys are sorted by the classes
module _ (w : World) (q : Query) (set : RelSet) (keys : Keys) (cs : List SortColumn) (cs_are : cs ≡ sorted_columns q.classes (has set.0) keys) where
  abbrev key : List Tid → List Value
  key row = key_at cs (value_at w q (tuple_of q set row))

  by_classes : (a b : List Tid) → columns_order cs (key a) (key b) ≡ keys_order (value_at w q) q.classes (has set.0) keys (tuple_of q set a) (tuple_of q set b)
  by_classes a b =
      ap (λ (l : List SortColumn). columns_order l (key_at l (value_at w q (tuple_of q set a))) (key_at l (value_at w q (tuple_of q set b)))) cs_are
      ∙ columns_compare (value_at w q) q.classes (has set.0) (tuple_of q set a) (tuple_of q set b) keys

  every : (xs : List (List Tid)) → Each (λ (row : List Tid). Unit {0}) xs
  every [] = tt
  every (x ∷ xs) = (tt, every xs)

  pub tuples_sorted : (rows : List (List Tid)) → map (tuple_of q set) (in_order (on key (columns_order cs)) rows) ≡ in_order (keys_order (value_at w q) q.classes (has set.0) keys) (map (tuple_of q set) rows)
  tuples_sorted rows =
      map-in_order (λ (row : List Tid). Unit {0}) (on key (columns_order cs)) (keys_order (value_at w q) q.classes (has set.0) keys) (tuple_of q set) (λ a b p r. by_classes a b)
      (λ xs h. every (in_order (on key (columns_order cs)) xs)) rows (every rows)

  pub rows_kept : (P : List Tid → Type 0) (rows : List (List Tid)) → All P rows → All P (in_order (on key (columns_order cs)) rows)
  rows_kept = All-in_order (on key (columns_order cs)) (on_total key (columns_total cs))

pub key_wide : (cs : List SortColumn) (value : ColRef → Value) → length (key_at cs value) ≡ length cs
key_wide cs value = length-map cs (λ (c : SortColumn). value c.column)

-- one more tuple of a list
pub rows_more : (rows : List (List Tid)) (items : List Keyed) (i : ℕ) (d : Keyed) (r : List Tid) → i < length items → slice_get rows (get_or items i d).place ≡ Some r
    → rows_keyed rows (take i items) ++ r ∷ [] ≡ rows_keyed rows (take (i + 1) items)
rows_more rows items i d r within found =
    ap (λ (l : List Tid). rows_keyed rows (take i items) ++ l ∷ []) (sym (get_or_from_slice_get rows (get_or items i d).place r [] found))
    ∙ sym (ap (rows_keyed rows) (take_more items i d within) ∙ map_push (λ (k : Keyed). slice_index_or rows k.place []) (take i items) (get_or items i d))
