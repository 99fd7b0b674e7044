-- The columns of a grouped query, and their values at a tuple.
use Rattle.std.proofs.Common.{◌≡◌, ◌<◌, ◌≤◌, ◌+◌, ℕ, Bool, true, cond, List, [], ◌∷◌, ◌++◌, length, map, take, get_or, refl, sym, ap, ap₂, ◌∙◌, arith, Option, Some, None, All, true≢false}
use Rattle.std.specs.Prelude.{Contains, nat_lt, position, slice_get}
use Rattle.std.specs.List.{position_or_len}
use Rattle.std.proofs.lemmas.Bool.Decides.{nat_tests}
use Rattle.std.proofs.lemmas.List.{map-append, take_more}
use Rattle.std.proofs.lemmas.List.Elements.{All-cons, All-head, All-tail}
use Rattle.std.proofs.lemmas.List.Quantifiers.{position-Some}
use Rattle.std.proofs.lemmas.List.Sums.{fails_before_first}
use Rattle.std.proofs.lemmas.Option.{slice_get-get_or}
use Rattle.pg_expr.specs.declared.operand.ColRef.{ColRef}
use Rattle.catalog.specs.Contents.{Contents}
use Rattle.eq_classes.specs.declared.order.OrderItem.{OrderItem}
use Rattle.eq_classes.specs.Clauses.{ClassTable}
use Rattle.eq_classes.specs.Equality.{is_column}
use Rattle.eq_classes.proofs.ClassHoldLemmas.{column_self}
use Rattle.eq_classes.proofs.EqualLemmas.{column_is}
use Rattle.pathkeys.specs.Keys.{order_class}
use Rattle.sql_query.specs.Grouped.{GroupedQuery}
use Rattle.sql_query.specs.WellBound.{ordered_columns}
use Rattle.sql_query.specs.declared.grouped.Item.{Item}
use Rattle.sql_query.specs.declared.grouped.Item.TheVariants.{Key, CountAll, Count, Min, Max}
use Rattle.group_runs.specs.work.Sorters.{AreSortersOf}
use Rattle.group_query.specs.Grouping.{IsItemOf, directed_item, group_items}
use Rattle.group_query.specs.Shapes.{args_of, place_in, place_or, sorter_in}
use Rattle.group_reply.specs.work.Columns.{IsArgOf, IsItemIn}
use Rattle.group_query.proofs.ItemLemmas.{directed-column}

-- a column stands where it is looked for among some of which it is one
place-within : (keys : List ColRef) (x : ColRef) → Contains keys x → position_or_len (is_column x) keys < length keys
place-within keys x (k, lt, at) =
    let late : k < position_or_len (is_column x) keys → 1 ≤ 0 = λ before. absurd (true≢false (sym (ap (is_column x) at ∙ column_self x) ∙ fails_before_first (is_column x) keys k x before)) in
    grind (arith, late, lt)

pub place-is : (keys : List ColRef) (x : ColRef) → Contains keys x → slice_get keys (place_in keys x) ≡ Some x
place-is keys x there =
    let n = position_or_len (is_column x) keys in
    let lt : position_or_len (is_column x) keys < length keys = place-within keys x there in
    let inside : nat_lt (position_or_len (is_column x) keys) (length keys) ≡ true = grind (arith, nat_tests) in
    let found : position (is_column x) keys ≡ Some n = ap (λ (b : Bool). cond b (Some n) None) inside in
    ap (λ (o : Option ℕ). slice_get keys (place_or o)) found ∙ slice_get-get_or keys n x lt ∙ ap Some (sym (column_is x (get_or keys n x) (position-Some (is_column x) keys n x found).1))

pub sorters-are : (keys : List ColRef) (is : List OrderItem) → All (λ (i : OrderItem). Contains keys i.col) is → AreSortersOf keys is (map (sorter_in keys) is)
sorters-are keys [] all = tt
sorters-are keys (i ∷ is) all = (
  record { column = place-is keys i.col (All-head (λ (i : OrderItem). Contains keys i.col) i is all); descending = refl; nulls_first = refl },
  sorters-are keys is (All-tail (λ (i : OrderItem). Contains keys i.col) i is all),
)

-- the columns of an order by the GROUP BY columns are these
pub columns-are : (t : ClassTable) (xs : List ColRef) → ordered_columns (group_items t xs) ≡ xs
columns-are t [] = refl
columns-are t (x ∷ xs) = ap₂ (λ (y : ColRef) (ys : List ColRef). y ∷ ys) (directed-column t x (order_class t x)) (columns-are t xs)

-- the columns of calls are there
module _ (c : Contents) (g : GroupedQuery) where
  abbrev arg-there : Option ColRef → Type 0
  arg-there = IsArgOf c g.base.range

  pub args-there : (is : List Item) → All (IsItemOf c g) is → All (IsArgOf c g.base.range) (args_of is)
  args-there [] all = λ i d lt. absurd (omega (arith, lt))
  args-there (Key n ∷ is) all = args-there is (All-tail (IsItemOf c g) (Key n) is all)
  args-there (CountAll ∷ is) all = All-cons arg-there None (args_of is) tt (args-there is (All-tail (IsItemOf c g) CountAll is all))
  args-there (Count x ∷ is) all = All-cons arg-there (Some x) (args_of is) (All-head (IsItemOf c g) (Count x) is all) (args-there is (All-tail (IsItemOf c g) (Count x) is all))
  args-there (Min x ∷ is) all = All-cons arg-there (Some x) (args_of is) (All-head (IsItemOf c g) (Min x) is all) (args-there is (All-tail (IsItemOf c g) (Min x) is all))
  args-there (Max x ∷ is) all = All-cons arg-there (Some x) (args_of is) (All-head (IsItemOf c g) (Max x) is all) (args-there is (All-tail (IsItemOf c g) (Max x) is all))

  pub item-there : (i : Item) → IsItemOf c g i → IsItemIn c g.base.range g.keys i
  item-there (Key n) of = of
  item-there CountAll of = tt
  item-there (Count x) of = tt
  item-there (Min x) of = of
  item-there (Max x) of = of

-- one value more
pub values-more : {A B : Type 0} (f : A → B) (old new : List B) (v : B) (xs : List A) (i : ℕ) (d : A) → i < length xs → new ≡ old ++ v ∷ [] → v ≡ f (get_or xs i d)
    → old ≡ map f (take i xs) → new ≡ map f (take (i + 1) xs)
values-more f old new v xs i d lt pushed is before =
    pushed ∙ ap₂ (λ l u. l ++ u ∷ []) before is ∙ sym (ap (map f) (take_more xs i d lt) ∙ map-append f (take i xs) (get_or xs i d ∷ []))
