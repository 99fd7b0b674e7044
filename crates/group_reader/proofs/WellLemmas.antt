-- The lists of a grouped SELECT that are bound: what they name is there, what is shown and what orders is grouped, and the grouped query
-- that is made of them is well bound.
use Rattle.std.proofs.Common.{◌≡◌, ℕ, ◌+◌, ◌^◌, ◌<◌, ◌≤◌, Vec, IfOk, Bool, true, false, cond, List, [], ◌∷◌, ◌++◌, length, map, filter_map, find, All, Contains, Option, Some, None, Result, Ok, Err, inl, inr, refl, sym, ap, subst, ◌∙◌, ⊎_elim, suc, arith}
use Rattle.std.specs.Prelude.{codes, position}
use Rattle.std.specs.List.{list_any}
use Rattle.std.specs.Str.{bytes_eq}
use Rattle.std.proofs.lemmas.Bool.{cases_Bool, true≢false}
use Rattle.std.proofs.lemmas.List.{length-map}
use Rattle.std.proofs.lemmas.List.Elements.{All-cons, All-nil}
use Rattle.std.proofs.lemmas.List.Quantifiers.{position-Some}
use Rattle.std.specs.declared.alloc.Global.{Global}
use Rattle.pg_base.specs.Names.{IsName}
use Rattle.pg_base.specs.declared.faults.Fault.{Fault}
use Rattle.pg_base.specs.declared.faults.Refusal.{Refusal}
use Rattle.pg_value.specs.declared.value.SqlType.{SqlType}
use Rattle.pg_expr.specs.declared.operand.ColRef.{ColRef}
use Rattle.pg_expr.specs.Cond.{Cond, conds_of}
use Rattle.pg_expr.specs.Typed.{IsTyped}
use Rattle.catalog.specs.Contents.{Contents}
use Rattle.catalog.specs.Range.{Range, type_in}
use Rattle.eq_classes.specs.declared.order.OrderItem.{OrderItem}
use Rattle.eq_classes.specs.Classes.{IsClass, Premises, conjuncts_in, direction_by, orders_by}
use Rattle.eq_classes.specs.Clauses.{ClassTable}
use Rattle.eq_classes.specs.Equality.{is_column}
use Rattle.eq_classes.specs.Holding.{IsClassTable}
use Rattle.eq_classes.proofs.EqualLemmas.{column_is}
use Rattle.eq_classes.proofs.HoldLemmas.{in_map, map_in}
use Rattle.eq_classes.proofs.ListLemmas.{IsIn, all_at, all_from, any_at, contains_from_in, filter_map_in, in_filter_map, in_left, in_parts, in_right}
use Rattle.eq_classes.proofs.WrittenLemmas.{in_typed}
use Rattle.path_cost.specs.work.Columns.{IsOver, is_column_in}
use Rattle.sql_lex.specs.declared.tokens.Token.{Token}
use Rattle.expr_reader.specs.declared.cursor.Spelled.{Spelled}
use Rattle.expr_reader.specs.Lists.{before_all, bound_each}
use Rattle.expr_reader.proofs.EachLemmas.{each-holds}
use Rattle.expr_reader.specs.Conditions.{next}
use Rattle.expr_reader.specs.Scope.{Scope}
use Rattle.pathkeys.specs.Keys.{order_class}
use Rattle.sql_query.specs.declared.grouped.Item.{Item}
use Rattle.sql_query.specs.declared.grouped.Item.TheVariants.{Key, CountAll, Count, Min, Max}
use Rattle.sql_query.specs.Queries.{Query, in_order_of}
use Rattle.sql_query.specs.WellBound.{IsColumnOf, IsDirected, IsWellBound, ordered_columns}
use Rattle.group_query.specs.Grouping.{IsItemOf, IsWellGrouped, directed_item, group_items, plain_item}
use Rattle.group_query.specs.Shapes.{calls_of, place_in, place_or}
use Rattle.query_reader.specs.declared.written.Item.TheVariants.{Bare, Qualified}
use Rattle.query_reader.specs.Binding.{alone, item_columns, past_limit, then_columns}
use Rattle.query_reader.specs.work.Conveys.{Conveys}
use Rattle.query_reader.specs.work.From.{AreRelations}
use Rattle.query_reader.specs.Named.{columns_in_all}
use Rattle.query_reader.specs.Scope.{scope_of}
use Rattle.query_reader.proofs.BoundLemmas.{shown-columns}
use Rattle.query_reader.proofs.ConjunctLemmas.{all-passing, limits-kept, named-columns, names-only}
use Rattle.group_reader.specs.declared.parts.Part.{Part}
use Rattle.group_reader.specs.declared.parts.Part.TheVariants as parts
use Rattle.group_reader.specs.declared.written.Column.{Column}
use Rattle.group_reader.specs.declared.written.Listed.{Listed}
use Rattle.group_reader.specs.declared.written.Listed.TheVariants.{Columns, OverRows, OverColumn}
use Rattle.group_reader.specs.declared.written.Sorting.{Sorting}
use Rattle.group_reader.specs.Binding.{BoundLists, base_with, column_by_call, column_of_part, grouped_with, has_no_least, is_grouped, item_in, none_of, over_column, over_rows, shown_columns, ungrouped_items, ungrouped_part}
use Rattle.group_reader.specs.work.Meaning.{column_by, column_call, column_meant, keys_said, known, last_word, list_said, listed_said, lists_said, part_alone, shown_at, sorting_said, then_parts}
use Rattle.group_reader.specs.work.Selected.{IsGroupedByItself}
use Rattle.group_reader.proofs.AddLemmas.{was-conveyed}
use Rattle.group_reader.proofs.ClassLemmas.{group-directed}
use Rattle.group_query.proofs.ItemLemmas.{directed-column}

-- one step after another that is meant
pub record Stepped {A B : Type 0} (m : Result A Fault) (f : A → Result B Fault) (b : B) : Type 0 where
  pub value : A
  pub first : m ≡ Ok value
  pub second : f value ≡ Ok b

pub stepped : {A B : Type 0} (m : Result A Fault) (f : A → Result B Fault) (b : B) → next m f ≡ Ok b → Stepped m f b
stepped (Ok a) f b is = record { value = a; first = refl; second = is }
stepped (Err e) f b is = absurd (cc (is))

none-there : {A : Type 0} (ts : List Token) (x y : A) → none_of ts x ≡ Ok y → (ts ≡ []) × (x ≡ y)
none-there [] x y is = (refl, cc (is))
none-there (t ∷ ts) x y is = absurd (cc (is))

both-empty : {A : Type 0} (xs ys : List A) → xs ++ ys ≡ [] → (xs ≡ []) × (ys ≡ [])
both-empty [] ys is = (refl, is)
both-empty (x ∷ xs) ys is = absurd (cc (is))

-- what the lists are where they are meant
pub record AreLists (scope : Scope) (type_of : ColRef → SqlType) (listed : List Listed) (distinct : Bool) (columns : List Column) (sorts : List Sorting) (l : BoundLists) : Type 0 where
  pub shown : list_said scope type_of listed ≡ Ok l.parts
  pub ordered : bound_each (sorting_said scope (shown_columns l.parts)) sorts ≡ Ok l.order
  pub grouped : keys_said scope distinct columns l.parts ≡ Ok l.keys
  pub shown_grouped : filter_map (ungrouped_part l.keys) l.parts ≡ []
  pub order_grouped : ungrouped_items l.keys l.order (map last_word sorts) ≡ []

pub are-lists : (scope : Scope) (type_of : ColRef → SqlType) (listed : List Listed) (distinct : Bool) (columns : List Column) (sorts : List Sorting) (l : BoundLists) → lists_said scope type_of listed distinct columns sorts ≡ Ok l → AreLists scope type_of listed distinct columns sorts l
are-lists scope type_of listed distinct columns sorts l is =
    let a = stepped (list_said scope type_of listed) _ l is in
    let b = stepped (bound_each (sorting_said scope (shown_columns a.value)) sorts) _ l a.second in
    let k = stepped (keys_said scope distinct columns a.value) _ l b.second in
    let made : BoundLists = record { parts = a.value; order = b.value; keys = k.value } in
    let (none, same) = none-there (filter_map (ungrouped_part k.value) a.value ++ ungrouped_items k.value b.value (map last_word sorts)) made l k.second in
    let (parts_none, order_none) = both-empty (filter_map (ungrouped_part k.value) a.value) (ungrouped_items k.value b.value (map last_word sorts)) none in
    subst (AreLists scope type_of listed distinct columns sorts) same (record { shown = a.first; ordered = b.first; grouped = k.first; shown_grouped = parts_none; order_grouped = order_none })

-- a column that is shown is grouped
in-none : {A : Type 0} (x : A) (xs : List A) → xs ≡ [] → IsIn x xs → ⊥
in-none x xs none i = subst (IsIn x) none i

shown-grouped : (keys : List ColRef) (ps : List Part) → filter_map (ungrouped_part keys) ps ≡ [] → (x : ColRef) (t : Token) → IsIn (parts.Shown x t) ps → is_grouped keys x ≡ true
shown-grouped keys ps none x t i = ⊎_elim
    (λ (h : is_grouped keys x ≡ true). h)
    (λ (h : is_grouped keys x ≡ false). absurd (in-none t (filter_map (ungrouped_part keys) ps) none (filter_map_in (ungrouped_part keys) ps (parts.Shown x t) t i (ap (λ (b : Bool). cond b None (Some t)) h))))
    (cases_Bool (is_grouped keys x))

-- a column that orders is grouped
order-grouped : (keys : List ColRef) (items : List OrderItem) (ts : List Token) → ungrouped_items keys items ts ≡ [] → length items ≤ length ts → (i : OrderItem) → IsIn i items → is_grouped keys i.col ≡ true
order-grouped keys [] ts none le i h = absurd h
order-grouped keys (j ∷ js) [] none le i h = absurd (omega (arith, le))
order-grouped keys (j ∷ js) (t ∷ ts) none le i h = by (λ later at. order-grouped keys js ts later (omega (arith, le)) i at) (is_grouped keys j.col) refl none h
  where
    by : (ungrouped_items keys js ts ≡ [] → IsIn i js → is_grouped keys i.col ≡ true) → (b : Bool) → is_grouped keys j.col ≡ b → cond b (ungrouped_items keys js ts) (t ∷ ungrouped_items keys js ts) ≡ [] → IsIn i (j ∷ js) → is_grouped keys i.col ≡ true
    by later true is none (inl e) = ap (λ (k : OrderItem). is_grouped keys k.col) e ∙ is
    by later true is none (inr h) = later none h
    by later false is none h = absurd (cc (none))

-- a list is bound to as many
pub each-length : {A B : Type 0} (f : A → Result B Fault) (xs : List A) (ys : List B) → bound_each f xs ≡ Ok ys → length ys ≡ length xs
each-length f [] ys is = let same : [] ≡ ys = cc (is) in ap length (sym same)
each-length {A} {B} f (x ∷ xs) ys is = by (each-length f xs) (f x) (bound_each f xs) refl is
  where
    by : ((zs : List B) → bound_each f xs ≡ Ok zs → length zs ≡ length xs) → (r : Result B Fault) (rs : Result (List B) Fault) → bound_each f xs ≡ rs → before_all r rs ≡ Ok ys → length ys ≡ suc (length xs)
    by later (Err e) rs at is = absurd (cc (is))
    by later (Ok b) (Err e) at is = absurd (cc (is))
    by later (Ok b) (Ok bs) at is = let same : b ∷ bs ≡ ys = cc (is) in sym (ap length same) ∙ ap suc (later bs at)

-- columns that are bound are as many as are written
pub few-bound : (f : Column → Result ColRef Fault) (ks : List Column) (r : Result (Vec ColRef Global) Refusal) → Conveys (λ xs v. v.items ≡ xs) (bound_each f ks) r → length ks < 2 ^ 32 → IfOk r (λ v. length v.items < 2 ^ 32)
few-bound f ks (Err e) told few = tt
few-bound f ks (Ok v) told few =
    let (xs, is, same) = was-conveyed (List ColRef) (Vec ColRef Global) (λ xs v. v.items ≡ xs) (bound_each f ks) v told in
    omega (arith, ap length same, each-length f ks xs is, few)

pub in-keys : (keys : List ColRef) (x : ColRef) → is_grouped keys x ≡ true → IsIn x keys
in-keys keys x h = let (y, i, same) = any_at (is_column x) keys h in subst (λ (z : ColRef). IsIn z keys) (sym (column_is x y same)) i

-- the place of a GROUP BY column is one
some-keys : (p : ColRef → Bool) (keys : List ColRef) → list_any p keys ≡ true → 0 < length keys
some-keys p [] h = absurd (true≢false (sym h))
some-keys p (y ∷ ys) h = omega arith

place-low : (keys : List ColRef) (x : ColRef) → is_grouped keys x ≡ true → place_in keys x < length keys
place-low keys x h = by (position (is_column x) keys) refl
  where
    by : (o : Option ℕ) → position (is_column x) keys ≡ o → place_or o < length keys
    by None e = some-keys (is_column x) keys h
    by (Some n) e = (position-Some (is_column x) keys n x e).0

-- the column that a call names
over-by : (a b m n : Bool) (x : ColRef) (i : Item) → cond a (Some (Count x)) (cond b None (cond m (Some (Min x)) (cond n (Some (Max x)) None))) ≡ Some i → column_by_call i ≡ Some x
over-by true b m n x i is = let same : Count x ≡ i = cc (is) in ap column_by_call (sym same)
over-by false true m n x i is = absurd (cc (is))
over-by false false true n x i is = let same : Min x ≡ i = cc (is) in ap column_by_call (sym same)
over-by false false false true x i is = let same : Max x ≡ i = cc (is) in ap column_by_call (sym same)
over-by false false false false x i is = absurd (cc (is))

-- over all rows it names none
rows-by : (b : Bool) (i : Item) → cond b (Some CountAll) None ≡ Some i → column_by_call i ≡ None
rows-by true i is = let same : CountAll ≡ i = cc (is) in ap column_by_call (sym same)
rows-by false i is = absurd (cc (is))

rows-is : (b : Bool) (i : Item) → cond b (Some CountAll) None ≡ Some i → i ≡ CountAll
rows-is true i is = let same : CountAll ≡ i = cc (is) in sym same
rows-is false i is = absurd (cc (is))

key-names-none : (n : ℕ) (x : ColRef) → column_by_call (Key n) ≡ Some x → ⊥
key-names-none n x is = cc

-- a call that is known
pub record Known (o : Option Item) (p : Part) : Type 0 where
  pub item : Item
  pub found : o ≡ Some item
  pub is : p ≡ parts.Called item

known-call : (n : Token) (o : Option Item) (p : Part) → known n o ≡ Ok p → Known o p
known-call n None p is = absurd (cc (is))
known-call n (Some i) p is = let same : parts.Called i ≡ p = cc (is) in record { item = i; found = refl; is = sym same }

no-column : (o : Option ColRef) (x : ColRef) → o ≡ None → o ≡ Some x → ⊥
no-column o x none some = let wrong : None ≡ Some x = sym none ∙ some in cc

-- a part alone
in-alone : (p q : Part) (ps : List Part) → part_alone q ≡ Ok ps → IsIn p ps → p ≡ q
in-alone p q ps is i = let same : q ∷ [] ≡ ps = cc (is) in by (subst (IsIn p) (sym same) i)
  where
    by : IsIn p (q ∷ []) → p ≡ q
    by (inl e) = e
    by (inr h) = absurd h

-- one list of parts after another
pub record Both (a b : Result (List Part) Fault) (ps : List Part) : Type 0 where
  pub front : List Part
  pub back : List Part
  pub first : a ≡ Ok front
  pub second : b ≡ Ok back
  pub whole : ps ≡ front ++ back

both-parts : (a b : Result (List Part) Fault) (ps : List Part) → then_parts a b ≡ Ok ps → Both a b ps
both-parts (Ok xs) (Ok ys) ps is = let same : xs ++ ys ≡ ps = cc (is) in record { front = xs; back = ys; first = refl; second = refl; whole = sym same }
both-parts (Ok xs) (Err f) ps is = absurd (cc (is))
both-parts (Err f) b ps is = absurd (cc (is))

-- how many calls are among some parts
abbrev is_called : Part → ℕ
is_called (parts.Shown x t) = 0
is_called (parts.Called i) = 1

abbrev called_count : List Part → ℕ
called_count [] = 0
called_count (p ∷ ps) = is_called p + called_count ps

count-both : (ps qs : List Part) → called_count (ps ++ qs) ≡ called_count ps + called_count qs
count-both [] qs = omega arith
count-both (p ∷ ps) qs = omega (arith, count-both ps qs)

count-shown : (word : Token) (xs : List ColRef) → called_count (map (shown_at word) xs) ≡ 0
count-shown word [] = refl
count-shown word (x ∷ xs) = omega (arith, count-shown word xs)

-- the calls of an item that is no key are one at most
calls-count : (keys : List ColRef) (ps : List Part) → length (calls_of (map (item_in keys) ps)) ≤ called_count ps
calls-count keys [] = omega arith
calls-count keys (parts.Shown x t ∷ ps) = omega (arith, calls-count keys ps)
calls-count keys (parts.Called (Key n) ∷ ps) = omega (arith, calls-count keys ps)
calls-count keys (parts.Called CountAll ∷ ps) = omega (arith, calls-count keys ps)
calls-count keys (parts.Called (Count x) ∷ ps) = omega (arith, calls-count keys ps)
calls-count keys (parts.Called (Min x) ∷ ps) = omega (arith, calls-count keys ps)
calls-count keys (parts.Called (Max x) ∷ ps) = omega (arith, calls-count keys ps)

count-alone : (q : Part) (ps : List Part) → part_alone q ≡ Ok ps → called_count ps ≤ 1
count-alone q ps is = let same : q ∷ [] ≡ ps = cc (is) in by q (sym (ap called_count same))
  where
    by : (r : Part) → called_count ps ≡ called_count (r ∷ []) → called_count ps ≤ 1
    by (parts.Shown x t) e = omega (arith, e)
    by (parts.Called i) e = omega (arith, e)

module _ (scope : Scope) (type_of : ColRef → SqlType) where
  -- an item is one call at most
  listed-count : (l : Listed) (ps : List Part) → listed_said scope type_of l ≡ Ok ps → called_count ps ≤ 1
  listed-count (Columns item word) ps is =
      let a = stepped (item_columns scope item) (λ (xs : List ColRef). Ok (map (shown_at word) xs)) ps is in
      let same : map (shown_at word) a.value ≡ ps = cc (a.second) in
      omega (arith, ap called_count same, count-shown word a.value)
  listed-count (OverRows n) ps is = let a = stepped (known n.token (over_rows n.bytes)) part_alone ps is in count-alone a.value ps a.second
  listed-count (OverColumn n k) ps is = let a = stepped (column_call scope type_of n k) part_alone ps is in count-alone a.value ps a.second

  pub list-count : (ls : List Listed) (ps : List Part) → list_said scope type_of ls ≡ Ok ps → called_count ps ≤ length ls
  list-count [] ps is = let same : [] ≡ ps = cc (is) in omega (arith, ap called_count same)
  list-count (l ∷ ls) ps is =
      let b = both-parts (listed_said scope type_of l) (list_said scope type_of ls) ps is in
      omega (arith, ap called_count b.whole, count-both b.front b.back, listed-count l b.front b.first, list-count ls b.back b.second)

module _ (c : Contents) (range : Range) (are : AreRelations c range) where
  -- the column of a name is one of a relation's table
  alone-in : (x : ColRef) → All (IsColumnOf c range) ((x ∷ []) ++ []) → IsColumnOf c range x
  alone-in x all = all_at (IsColumnOf c range) ((x ∷ []) ++ []) all x (inl refl)

  column-by : (q : Option Spelled) (n : Spelled) (x : ColRef) → column_by (scope_of c range) q n ≡ Ok x → IsColumnOf c range x
  column-by None n x is =
      let found : item_columns (scope_of c range) (Bare n) ≡ Ok (x ∷ []) = ap (λ (r : Result ColRef Fault). next r alone) is in
      alone-in x (shown-columns c range are (Bare n ∷ []) ((x ∷ []) ++ []) (ap (λ (r : Result (List ColRef) Fault). then_columns r (Ok [])) found))
  column-by (Some q) n x is =
      let found : item_columns (scope_of c range) (Qualified q n) ≡ Ok (x ∷ []) = ap (λ (r : Result ColRef Fault). next r alone) is in
      alone-in x (shown-columns c range are (Qualified q n ∷ []) ((x ∷ []) ++ []) (ap (λ (r : Result (List ColRef) Fault). then_columns r (Ok [])) found))

  pub keys-there : (ks : List Column) (xs : List ColRef) → bound_each (column_meant (scope_of c range)) ks ≡ Ok xs → All (IsColumnOf c range) xs
  keys-there ks xs is = each-holds (column_meant (scope_of c range)) (IsColumnOf c range) (λ k x at. column-by k.qualifier k.name x at) ks xs is

  module _ (type_of : ColRef → SqlType) where
    listed-there : (l : Listed) (ps : List Part) → listed_said (scope_of c range) type_of l ≡ Ok ps → (p : Part) → IsIn p ps → (x : ColRef) → column_of_part p ≡ Some x → IsColumnOf c range x
    listed-there (Columns item word) ps is p i x names =
        let a = stepped (item_columns (scope_of c range) item) (λ (xs : List ColRef). Ok (map (shown_at word) xs)) ps is in
        let same : map (shown_at word) a.value ≡ ps = cc (a.second) in
        let (y, there, at) = in_map (shown_at word) a.value p (subst (IsIn p) (sym same) i) in
        let it : Some y ≡ Some x = sym (ap column_of_part at) ∙ names in
        let one : y ≡ x = cc (it) in
        subst (IsColumnOf c range) one (all_at (IsColumnOf c range) (a.value ++ [])
        (shown-columns c range are (item ∷ []) (a.value ++ []) (ap (λ (r : Result (List ColRef) Fault). then_columns r (Ok [])) a.first)) y (in_left y a.value [] there))
    listed-there (OverRows n) ps is p i x names =
        let a = stepped (known n.token (over_rows n.bytes)) part_alone ps is in
        let k = known-call n.token (over_rows n.bytes) a.value a.first in
        let at : p ≡ parts.Called k.item = in-alone p a.value ps a.second i ∙ k.is in
        absurd (no-column (column_by_call k.item) x (rows-by (bytes_eq n.bytes (codes "count")) k.item k.found) (sym (ap column_of_part at) ∙ names))
    listed-there (OverColumn n k) ps is p i x names =
        let a = stepped (column_call (scope_of c range) type_of n k) part_alone ps is in
        let b = stepped (column_meant (scope_of c range) k) (λ (y : ColRef). known n.token (over_column n.bytes (type_of y) y)) a.value a.first in
        let m = known-call n.token (over_column n.bytes (type_of b.value) b.value) a.value b.second in
        let at : p ≡ parts.Called m.item = in-alone p a.value ps a.second i ∙ m.is in
        let named = over-by (bytes_eq n.bytes (codes "count")) (has_no_least (type_of b.value)) (bytes_eq n.bytes (codes "min")) (bytes_eq n.bytes (codes "max")) b.value m.item m.found in
        let it : Some b.value ≡ Some x = sym named ∙ (sym (ap column_of_part at) ∙ names) in
        let one : b.value ≡ x = cc (it) in
        subst (IsColumnOf c range) one (column-by k.qualifier k.name b.value b.first)

    pub parts-there : (ls : List Listed) (ps : List Part) → list_said (scope_of c range) type_of ls ≡ Ok ps → (p : Part) → IsIn p ps → (x : ColRef) → column_of_part p ≡ Some x → IsColumnOf c range x
    parts-there [] ps is p i x names = let same : [] ≡ ps = cc (is) in absurd (subst (IsIn p) (sym same) i)
    parts-there (l ∷ ls) ps is p i x names =
        let b = both-parts (listed_said (scope_of c range) type_of l) (list_said (scope_of c range) type_of ls) ps is in
        ⊎_elim
        (λ (h : IsIn p b.front). listed-there l b.front b.first p h x names)
        (λ (h : IsIn p b.back). parts-there ls b.back b.second p h x names)
        (in_parts p b.front b.back (subst (IsIn p) b.whole i))

    -- the columns that the list shows, and those by which rows are grouped, are of the relations' tables
    shown-there : (ps : List Part) → ((p : Part) → IsIn p ps → (x : ColRef) → column_of_part p ≡ Some x → IsColumnOf c range x) → All (IsColumnOf c range) (shown_columns ps)
    shown-there [] there = All-nil (IsColumnOf c range)
    shown-there (parts.Shown x t ∷ ps) there = All-cons (IsColumnOf c range) x (shown_columns ps) (there (parts.Shown x t) (inl refl) x refl) (shown-there ps (λ p i. there p (inr i)))
    shown-there (parts.Called i ∷ ps) there = shown-there ps (λ p j. there p (inr j))

    pub grouped-there : (distinct : Bool) (ls : List Listed) (ks : List Column) (ps : List Part) (xs : List ColRef) → list_said (scope_of c range) type_of ls ≡ Ok ps → keys_said (scope_of c range) distinct ks ps ≡ Ok xs → All (IsColumnOf c range) xs
    grouped-there true ls ks ps xs said is = let same : shown_columns ps ≡ xs = cc (is) in subst (All (IsColumnOf c range)) same (shown-there ps (parts-there ls ps said))
    grouped-there false ls ks ps xs said is = keys-there ks xs is

-- no call is a place among the GROUP BY columns
module _ (scope : Scope) (type_of : ColRef → SqlType) where
  no-key-listed : (l : Listed) (ps : List Part) → listed_said scope type_of l ≡ Ok ps → (n : ℕ) → IsIn (parts.Called (Key n)) ps → ⊥
  no-key-listed (Columns item word) ps is n i =
      let a = stepped (item_columns scope item) (λ (xs : List ColRef). Ok (map (shown_at word) xs)) ps is in
      let same : map (shown_at word) a.value ≡ ps = cc (a.second) in
      let (y, there, at) = in_map (shown_at word) a.value (parts.Called (Key n)) (subst (IsIn (parts.Called (Key n))) (sym same) i) in
      absurd (cc (at))
  no-key-listed (OverRows m) ps is n i =
      let a = stepped (known m.token (over_rows m.bytes)) part_alone ps is in
      let k = known-call m.token (over_rows m.bytes) a.value a.first in
      let at : parts.Called (Key n) ≡ parts.Called CountAll = in-alone (parts.Called (Key n)) a.value ps a.second i ∙ (k.is ∙ ap parts.Called (rows-is (bytes_eq m.bytes (codes "count")) k.item k.found)) in
      absurd (cc (at))
  no-key-listed (OverColumn m k) ps is n i =
      let a = stepped (column_call scope type_of m k) part_alone ps is in
      let b = stepped (column_meant scope k) (λ (y : ColRef). known m.token (over_column m.bytes (type_of y) y)) a.value a.first in
      let q = known-call m.token (over_column m.bytes (type_of b.value) b.value) a.value b.second in
      let at : parts.Called (Key n) ≡ parts.Called q.item = in-alone (parts.Called (Key n)) a.value ps a.second i ∙ q.is in
      let one : Key n ≡ q.item = cc (at) in
      let named = over-by (bytes_eq m.bytes (codes "count")) (has_no_least (type_of b.value)) (bytes_eq m.bytes (codes "min")) (bytes_eq m.bytes (codes "max")) b.value q.item q.found in
      key-names-none n b.value (ap column_by_call one ∙ named)

  pub no-key : (ls : List Listed) (ps : List Part) → list_said scope type_of ls ≡ Ok ps → (n : ℕ) → IsIn (parts.Called (Key n)) ps → ⊥
  no-key [] ps is n i = let same : [] ≡ ps = cc (is) in subst (IsIn (parts.Called (Key n))) (sym same) i
  no-key (l ∷ ls) ps is n i =
      let b = both-parts (listed_said scope type_of l) (list_said scope type_of ls) ps is in
      ⊎_elim
      (λ (h : IsIn (parts.Called (Key n)) b.front). no-key-listed l b.front b.first n h)
      (λ (h : IsIn (parts.Called (Key n)) b.back). no-key ls b.back b.second n h)
      (in_parts (parts.Called (Key n)) b.front b.back (subst (IsIn (parts.Called (Key n))) b.whole i))

-- what is found in the front of a list is found in all of it
find-front : {A : Type 0} (test : A → Bool) (xs ys : List A) (x : A) → find test xs ≡ Some x → find test (xs ++ ys) ≡ Some x
find-front test [] ys x is = absurd (cc (is))
find-front test (z ∷ zs) ys x is = by (find-front test zs ys x) (test z) is
  where
    by : (find test zs ≡ Some x → find test (zs ++ ys) ≡ Some x) → (b : Bool) → cond b (Some z) (find test zs) ≡ Some x → cond b (Some z) (find test (zs ++ ys)) ≡ Some x
    by later true is = is
    by later false is = later is

-- the grouped query of these lists
module _ (c : Contents) (range : Range) (are : AreRelations c range) (some : 0 < length range) (names : All (λ r. IsName r.1) range) (ws : List Cond) (over : All (IsOver c range) ws) (kept : past_limit ws ≡ None) (classes : ClassTable) (l : BoundLists) where
  abbrev premises : Premises
  premises = record { conjuncts = conjuncts_in ws; order = l.order ++ map plain_item l.keys; type_of = type_in c range }

  module _ (is : IsClassTable premises classes) (keys : All (IsColumnOf c range) l.keys) (there : (p : Part) → IsIn p l.parts → (x : ColRef) → column_of_part p ≡ Some x → IsColumnOf c range x)
      (shown : (x : ColRef) (t : Token) → IsIn (parts.Shown x t) l.parts → is_grouped l.keys x ≡ true) (sorted : (i : OrderItem) → IsIn i l.order → is_grouped l.keys i.col ≡ true)
      (keyless : (n : ℕ) → IsIn (parts.Called (Key n)) l.parts → ⊥) (few_keys : length l.keys < 2 ^ 32) (few_calls : length (calls_of (map (item_in l.keys) l.parts)) < 2 ^ 32) where
    abbrev named_by_list : List ColRef
    named_by_list = filter_map column_of_part l.parts

    abbrev named_by_conjuncts : List ColRef
    named_by_conjuncts = columns_in_all (conds_of ws)

    abbrev sorted_columns : List ColRef
    sorted_columns = map (λ (i : OrderItem). i.col) l.order

    abbrev all_named : List ColRef
    all_named = named_by_list ++ (named_by_conjuncts ++ (sorted_columns ++ l.keys))

    key-named : (x : ColRef) → IsIn x l.keys → Contains all_named x
    key-named x i = contains_from_in all_named x (in_right x named_by_list (named_by_conjuncts ++ (sorted_columns ++ l.keys)) (in_right x named_by_conjuncts (sorted_columns ++ l.keys) (in_right x sorted_columns l.keys i)))

    sorted-key : (i : OrderItem) → IsIn i l.order → IsIn i.col l.keys
    sorted-key i at = in-keys l.keys i.col (sorted i at)

    key-there : (x : ColRef) → IsIn x l.keys → IsColumnOf c range x
    key-there x i = all_at (IsColumnOf c range) l.keys keys x i

    named-there : (x : ColRef) → IsIn x all_named → IsColumnOf c range x
    named-there x i = ⊎_elim
        (λ (h : IsIn x named_by_list). let (p, at, names) = in_filter_map column_of_part l.parts x h in there p at x names)
        (λ (h : IsIn x (named_by_conjuncts ++ (sorted_columns ++ l.keys))). ⊎_elim
        (λ (k : IsIn x named_by_conjuncts). named-columns c range ws over x k)
        (λ (k : IsIn x (sorted_columns ++ l.keys)). ⊎_elim
        (λ (m : IsIn x sorted_columns). let (j, at, same) = in_map (λ (o : OrderItem). o.col) l.order x m in subst (IsColumnOf c range) (sym same) (key-there j.col (sorted-key j at)))
        (λ (m : IsIn x l.keys). key-there x m)
        (in_parts x sorted_columns l.keys k))
        (in_parts x named_by_conjuncts (sorted_columns ++ l.keys) h))
        (in_parts x named_by_list (named_by_conjuncts ++ (sorted_columns ++ l.keys)) i)

    abbrev items : List OrderItem
    items = l.order ++ map plain_item l.keys

    abbrev base : Query
    base = base_with classes (record { range = range; where_all = ws; lists = l })

    item-named : (i : OrderItem) → IsIn i items → Contains all_named i.col
    item-named i at = ⊎_elim
        (λ (h : IsIn i l.order). key-named i.col (sorted-key i h))
        (λ (h : IsIn i (map plain_item l.keys)). let (x, j, same) = in_map plain_item l.keys i h in subst (Contains all_named) (sym (ap (λ (o : OrderItem). o.col) same)) (key-named x j))
        (in_parts i l.order (map plain_item l.keys) at)

    key-stands : (x : ColRef) → IsIn x l.keys → Contains (ordered_columns items) x
    key-stands x i = contains_from_in (ordered_columns items) x (map_in (λ (o : OrderItem). o.col) items (plain_item x) (in_right (plain_item x) l.order (map plain_item l.keys) (map_in plain_item l.keys x i)))

    -- a base is well bound in each order by GROUP BY columns that have the directions of their classes
    well-in : (order : List OrderItem) → ((i : OrderItem) → IsIn i order → IsIn i.col l.keys) → All (IsDirected c (in_order_of base order)) classes.classes → IsWellBound c (in_order_of base order)
    well-in order by_keys directed_item = record {
      range = record { some = some; few = are.few; tables = are.tables; names = names; distinct = are.distinct };
      used = all_from (IsColumnOf c range) all_named named-there;
      select = All-nil _;
      order = all_from (λ (i : OrderItem). Contains all_named i.col) order (λ i at. key-named i.col (by_keys i at));
      conditions = names-only all_named ws (λ x i. in_right x named_by_list (named_by_conjuncts ++ (sorted_columns ++ l.keys)) (in_left x named_by_conjuncts (sorted_columns ++ l.keys) i));
      typed = all_from (IsTyped (type_in c range)) ws (λ w i. (all_at (IsOver c range) ws over w i).typed);
      limits = limits-kept ws kept;
      items = items;
      named = all_from (λ (i : OrderItem). Contains all_named i.col) items item-named;
      classes = is;
      stands = all_from (λ (i : OrderItem). Contains (ordered_columns items) i.col) order (λ i at. key-stands i.col (by_keys i at));
      directions = directed_item;
    }

    typed : All (IsTyped premises.type_of) premises.conjuncts
    typed = in_typed (type_in c range) ws (all_from (IsTyped (type_in c range)) ws (λ w i. (all_at (IsOver c range) ws over w i).typed))

    none-directed : All (IsDirected c (in_order_of base [])) classes.classes
    none-directed = all_from (IsDirected c (in_order_of base [])) classes.classes (λ k at free item found. absurd (cc (found)))

    lines-directed : All (IsDirected c (in_order_of base l.order)) classes.classes
    lines-directed = all_from (IsDirected c (in_order_of base l.order)) classes.classes
        (λ k at free item found.
        let own : IsClass premises k = all_at (IsClass premises) classes.classes is.classes.each k at in
        sym (own.direction ∙ ap direction_by (find-front (orders_by (type_in c range) k) l.order (map plain_item l.keys) item found)))

    groups-directed : All (IsDirected c (in_order_of base (group_items classes l.keys))) classes.classes
    groups-directed = all_from (IsDirected c (in_order_of base (group_items classes l.keys))) classes.classes
        (λ k at free item found. group-directed premises classes is typed l.keys k at item found)

    group-key : (i : OrderItem) → IsIn i (group_items classes l.keys) → IsIn i.col l.keys
    group-key i at =
        let (x, j, same) = in_map (λ (y : ColRef). directed_item classes y (order_class classes y)) l.keys i at in
        subst (λ (y : ColRef). IsIn y l.keys) (sym (ap (λ (o : OrderItem). o.col) same ∙ directed-column classes x (order_class classes x))) j

    item-there : (p : Part) → IsIn p l.parts → IsItemOf c (grouped_with classes (record { range = range; where_all = ws; lists = l })) (item_in l.keys p)
    item-there (parts.Shown x t) i = place-low l.keys x (shown x t i)
    item-there (parts.Called CountAll) i = tt
    item-there (parts.Called (Count x)) i = there (parts.Called (Count x)) i x refl
    item-there (parts.Called (Min x)) i = there (parts.Called (Min x)) i x refl
    item-there (parts.Called (Max x)) i = there (parts.Called (Max x)) i x refl
    item-there (parts.Called (Key n)) i = absurd (keyless n i)

    pub well-grouped : IsGroupedByItself c (grouped_with classes (record { range = range; where_all = ws; lists = l }))
    well-grouped =
        let g = grouped_with classes (record { range = range; where_all = ws; lists = l }) in
        let well : IsWellGrouped c g = record {
          base = well-in [] (λ i at. absurd at) none-directed;
          plain = refl;
          whole = refl;
          by_groups = well-in (group_items classes l.keys) group-key groups-directed;
          by_lines = well-in l.order sorted-key lines-directed;
          keys = keys;
          items = all_from (IsItemOf c g) (map (item_in l.keys) l.parts) (λ n at. let (p, i, same) = in_map (item_in l.keys) l.parts n at in subst (IsItemOf c g) (sym same) (item-there p i));
          order = all_from (λ (i : OrderItem). Contains l.keys i.col) l.order (λ i at. contains_from_in l.keys i.col (sorted-key i at));
          few_keys = few_keys;
          few_calls = few_calls;
        } in
        (well, is)

-- a grouped query of lists that are meant is well grouped
pub grouped-of-lists : (c : Contents) (range : Range) (are : AreRelations c range) → 0 < length range → All (λ r. IsName r.1) range → (ws : List Cond) → All (IsOver c range) ws → past_limit ws ≡ None → (classes : ClassTable) (l : BoundLists)
    (listed : List Listed) (distinct : Bool) (columns : List Column) (sorts : List Sorting) → AreLists (scope_of c range) (type_in c range) listed distinct columns sorts l →
    IsClassTable (record { conjuncts = conjuncts_in ws; order = l.order ++ map plain_item l.keys; type_of = type_in c range }) classes → length listed < 2 ^ 32 → length l.keys < 2 ^ 32 →
    IsGroupedByItself c (grouped_with classes (record { range = range; where_all = ws; lists = l }))
grouped-of-lists c range are some names ws over kept classes l listed distinct columns sorts a is few many =
    let scope = scope_of c range in
    let type_of = type_in c range in
    let words : length l.order ≤ length (map last_word sorts) = omega (arith, each-length (sorting_said scope (shown_columns l.parts)) sorts l.order a.ordered, length-map sorts last_word) in
    well-grouped c range are some names ws over kept classes l is (grouped-there c range are type_of distinct listed columns l.parts l.keys a.shown a.grouped) (parts-there c range are type_of listed l.parts a.shown)
    (shown-grouped l.keys l.parts a.shown_grouped) (order-grouped l.keys l.order (map last_word sorts) a.order_grouped words) (no-key scope type_of listed l.parts a.shown)
    many
    (omega (arith, calls-count l.keys l.parts, list-count scope type_of listed l.parts a.shown, few))

-- what orders and what is grouped are columns of the relations
pub items-over : (c : Contents) (range : Range) (are : AreRelations c range) (l : BoundLists) (listed : List Listed) (distinct : Bool) (columns : List Column) (sorts : List Sorting) → AreLists (scope_of c range) (type_in c range) listed distinct columns sorts l →
    All (λ (i : OrderItem). is_column_in c range i.col ≡ true) (l.order ++ map plain_item l.keys)
items-over c range are l listed distinct columns sorts a =
    let scope = scope_of c range in
    let words : length l.order ≤ length (map last_word sorts) = omega (arith, each-length (sorting_said scope (shown_columns l.parts)) sorts l.order a.ordered, length-map sorts last_word) in
    let passing = all-passing c range l.keys (grouped-there c range are (type_in c range) distinct listed columns l.parts l.keys a.shown a.grouped) in
    all_from (λ (i : OrderItem). is_column_in c range i.col ≡ true) (l.order ++ map plain_item l.keys)
    (λ i at. ⊎_elim
    (λ (h : IsIn i l.order). all_at (λ (x : ColRef). is_column_in c range x ≡ true) l.keys passing i.col (in-keys l.keys i.col (order-grouped l.keys l.order (map last_word sorts) a.order_grouped words i h)))
    (λ (h : IsIn i (map plain_item l.keys)). let (x, j, same) = in_map plain_item l.keys i h in
    subst (λ (y : ColRef). is_column_in c range y ≡ true) (sym (ap (λ (o : OrderItem). o.col) same)) (all_at (λ (x : ColRef). is_column_in c range x ≡ true) l.keys passing x j))
    (in_parts i l.order (map plain_item l.keys) at))
