-- The values in the lines of groups can be printed as what their items show.
use Rattle.std.proofs.Common.{◌≡◌, ℕ, zero, suc, ◌+◌, Bool, true, false, cond, List, [], ◌∷◌, length, map, filter, refl, sym, ap, ◌∙◌, subst, arith, All, Option, Some, None, Ordering}
use Rattle.std.specs.Prelude.{slice_index_or}
use Rattle.std.specs.List.{AllByRecursion}
use Rattle.std.specs.Ordering.{is_gt}
use Rattle.std.proofs.lemmas.List.Elements.{All-from_recursion}
use Rattle.pg_base.proofs.ListLemmas.{all-filter, each-map}
use Rattle.pg_value.specs.Kinds.{directed_order}
use Rattle.pg_value.specs.Sorting.{in_order, one_after_other, put}
use Rattle.pg_value.specs.declared.value.SqlType.{SqlType}
use Rattle.pg_value.specs.declared.value.SqlType.TheVariants.{Int8}
use Rattle.pg_value.specs.declared.value.Value.{Value}
use Rattle.pg_value.specs.declared.value.Value.TheVariants.{Null}
use Rattle.pg_expr.specs.declared.operand.ColRef.{ColRef}
use Rattle.catalog.specs.Contents.{Contents}
use Rattle.catalog.specs.Range.{Range, type_in}
use Rattle.eq_classes.specs.work.Holding.{Fits}
use Rattle.sql_query.specs.Grouped.{GroupedQuery}
use Rattle.sql_query.specs.Queries.{Query}
use Rattle.sql_query.specs.Tuples.{Tuple, value_at}
use Rattle.sql_query.specs.Worlds.{World}
use Rattle.sql_query.specs.declared.grouped.Item.{Item}
use Rattle.sql_query.specs.declared.grouped.Item.TheVariants.{Key, CountAll, Count, Min, Max}
use Rattle.group_values.specs.Groups.{Seen, alike, all_called, called, first_or_null, firsts, groups, is_known, keys_of_group, line, lines, shown_value, sorted, sorter_order, summary, values_of_call}
use Rattle.group_values.specs.Shapes.{Summary}
use Rattle.group_values.specs.declared.shape.Call.TheVariants as calls
use Rattle.group_values.specs.declared.shape.Sorter.{Sorter}
use Rattle.group_values.specs.declared.task.GroupPlan.{GroupPlan}
use Rattle.group_values.specs.work.Grouping.{final_shape}
use Rattle.group_query.specs.Shapes.{args_of, calls_of, shape_of, shown_from}
use Rattle.group_runs.specs.Seen.{arg_at}
use Rattle.reply_text.specs.work.Printed.{ArePrintable, IsPrintable}
use Rattle.reply_text.proofs.PrintedLemmas.{typed-printable}
use Rattle.group_reply.specs.Replies.{item_type, item_types}
use Rattle.group_reply.specs.work.Drawing.{final_lines, seen_all}

-- a sort keeps what holds of each element
put-each : {X : Type 0} (P : X → Type 0) (order : X → X → Ordering) (x : X) (ys : List X) → P x → AllByRecursion P ys → AllByRecursion P (put order x ys)
put-each P order x [] p all = (p, tt)
put-each P order x (y ∷ ys) p all = by (is_gt (order x y)) (put-each P order x ys p all.1)
  where
    by : (b : Bool) → AllByRecursion P (put order x ys) → AllByRecursion P (cond b (y ∷ put order x ys) (x ∷ y ∷ ys))
    by true later = (all.0, later)
    by false later = (p, all)

sorted-each : {X : Type 0} (P : X → Type 0) (order : X → X → Ordering) (xs : List X) → AllByRecursion P xs → AllByRecursion P (in_order order xs)
sorted-each P order [] all = tt
sorted-each P order (x ∷ xs) all = put-each P order x (in_order order xs) all.0 (sorted-each P order xs all.1)

-- each group is of the tuples that are grouped
group-each : (P : Seen → Type 0) (ss : List Seen) → AllByRecursion P ss → (xs : List Seen) → AllByRecursion (λ s. AllByRecursion P (filter (alike s) ss)) xs
group-each P ss all [] = tt
group-each P ss all (x ∷ xs) = (all-filter P (alike x) ss all, group-each P ss all xs)

groups-each : (P : Seen → Type 0) (width : ℕ) (ss : List Seen) → AllByRecursion P ss → AllByRecursion (AllByRecursion P) (groups width ss)
groups-each P zero ss all = (all, tt)
groups-each P (suc n) ss all = each-map (AllByRecursion P) (λ s. filter (alike s) ss) (firsts ss) (group-each P ss all (firsts ss))

-- from a place on a list is another one, as far as either goes
abbrev IsFrom : {X : Type 0} → X → ℕ → List X → List X → Type 0
IsFrom d n xs ys = (k : ℕ) → slice_index_or xs (n + k) d ≡ slice_index_or ys k d

from-here : {X : Type 0} (d : X) (n : ℕ) (xs : List X) (y : X) (ys : List X) → IsFrom d n xs (y ∷ ys) → slice_index_or xs n d ≡ y
from-here d n xs y ys is = let same : n ≡ n + 0 = omega arith in ap (λ (k : ℕ). slice_index_or xs k d) same ∙ is 0

from-first : {X : Type 0} (d : X) (xs : List X) → IsFrom d 0 xs xs
from-first d xs k = let same : 0 + k ≡ k = omega arith in ap (λ (j : ℕ). slice_index_or xs j d) same

from-next : {X : Type 0} (d : X) (n : ℕ) (xs : List X) (y : X) (ys : List X) → IsFrom d n xs (y ∷ ys) → IsFrom d (suc n) xs ys
from-next d n xs y ys is k = let same : suc n + k ≡ n + suc k = omega arith in ap (λ (j : ℕ). slice_index_or xs j d) same ∙ is (suc k)

-- the type of a call's column; of count(*), which has none, no value is looked at
abbrev arg_type : Contents → Range → Option ColRef → SqlType
arg_type c range None = Int8
arg_type c range (Some x) = type_in c range x

module _ (c : Contents) (range : Range) (keys : List ColRef) where
  abbrev key_type : ℕ → SqlType
  key_type n = item_type c range keys (Key n)

  -- what is seen of a tuple can be printed: the GROUP BY columns, and the columns of calls by their types
  record IsSeen (types : List SqlType) (s : Seen) : Type 0 where
    of_keys : (n : ℕ) → IsPrintable (key_type n) (slice_index_or s.keys n Null)
    of_args : (n : ℕ) → IsPrintable (slice_index_or types n Int8) (slice_index_or s.args n Null)

  module _ (types : List SqlType) where
    group-keys : (ss : List Seen) → AllByRecursion (IsSeen types) ss → (n : ℕ) → IsPrintable (key_type n) (slice_index_or (keys_of_group ss) n Null)
    group-keys [] all n = tt
    group-keys (s ∷ ss) all n = all.0.of_keys n

    known-args : (n : ℕ) (ss : List Seen) → AllByRecursion (IsSeen types) ss → AllByRecursion (IsPrintable (slice_index_or types n Int8)) (map (λ (s : Seen). slice_index_or s.args n Null) ss)
    known-args n [] all = tt
    known-args n (s ∷ ss) all = (all.0.of_args n, known-args n ss all.1)

    first-printable : (t : SqlType) (vs : List Value) → AllByRecursion (IsPrintable t) vs → IsPrintable t (first_or_null vs)
    first-printable t [] all = tt
    first-printable t (v ∷ vs) all = all.0

    least-printable : (t : SqlType) (descending : Bool) (n : ℕ) (ss : List Seen) → AllByRecursion (IsSeen types) ss → slice_index_or types n Int8 ≡ t
        → IsPrintable t (first_or_null (in_order (directed_order descending false) (values_of_call n ss)))
    least-printable t descending n ss all is =
        let P : SqlType → Type 0 = λ u. IsPrintable u (first_or_null (in_order (directed_order descending false) (values_of_call n ss))) in
        let u : SqlType = slice_index_or types n Int8 in
        let values = map (λ (s : Seen). slice_index_or s.args n Null) ss in
        subst P is
        (first-printable u (in_order (directed_order descending false) (values_of_call n ss))
        (sorted-each (IsPrintable u) (directed_order descending false) (values_of_call n ss) (all-filter (IsPrintable u) is_known values (known-args n ss all))))

    -- what items show of a group, the calls before which are so many
    module _ (ss : List Seen) (all : AllByRecursion (IsSeen types) ss) (g : Summary) (keys-are : g.keys ≡ keys_of_group ss) where
      key-shown : (n : ℕ) → IsPrintable (key_type n) (slice_index_or g.keys n Null)
      key-shown n = let P : List Value → Type 0 = λ vs. IsPrintable (key_type n) (slice_index_or vs n Null) in subst P (sym keys-are) (group-keys ss all n)

      call-shown : (t : SqlType) (n : ℕ) (v : Value) → slice_index_or g.called n Null ≡ v → IsPrintable t v → IsPrintable t (slice_index_or g.called n Null)
      call-shown t n v is printable = let P : Value → Type 0 = λ x. IsPrintable t x in subst P (sym is) printable

      items-shown : (n : ℕ) (is : List Item) → IsFrom Null n g.called (all_called n (calls_of is) ss) → IsFrom Int8 n types (map (arg_type c range) (args_of is))
          → ArePrintable (item_types c range keys is) (map (shown_value g) (shown_from n is))
      items-shown n [] given typed = tt
      items-shown n (Key k ∷ is) given typed = (key-shown k, items-shown n is given typed)
      items-shown n (CountAll ∷ is) given typed =
          let v : Value = called calls.CountAll n ss in
          let rest = all_called (suc n) (calls_of is) ss in
          let others = map (arg_type c range) (args_of is) in
          (call-shown Int8 n v (from-here Null n g.called v rest given) tt, items-shown (suc n) is (from-next Null n g.called v rest given) (from-next Int8 n types Int8 others typed))
      items-shown n (Count x ∷ is) given typed =
          let v : Value = called calls.Count n ss in
          let t : SqlType = type_in c range x in
          let rest = all_called (suc n) (calls_of is) ss in
          let others = map (arg_type c range) (args_of is) in
          (call-shown Int8 n v (from-here Null n g.called v rest given) tt, items-shown (suc n) is (from-next Null n g.called v rest given) (from-next Int8 n types t others typed))
      items-shown n (Min x ∷ is) given typed =
          let v : Value = called calls.Min n ss in
          let t : SqlType = type_in c range x in
          let rest = all_called (suc n) (calls_of is) ss in
          let others = map (arg_type c range) (args_of is) in (
            call-shown t n v (from-here Null n g.called v rest given) (least-printable t false n ss all (from-here Int8 n types t others typed)),
            items-shown (suc n) is (from-next Null n g.called v rest given) (from-next Int8 n types t others typed),
          )
      items-shown n (Max x ∷ is) given typed =
          let v : Value = called calls.Max n ss in
          let t : SqlType = type_in c range x in
          let rest = all_called (suc n) (calls_of is) ss in
          let others = map (arg_type c range) (args_of is) in (
            call-shown t n v (from-here Null n g.called v rest given) (least-printable t true n ss all (from-here Int8 n types t others typed)),
            items-shown (suc n) is (from-next Null n g.called v rest given) (from-next Int8 n types t others typed),
          )

  -- the line of a group, and the lines of groups
  module _ (items : List Item) where
    abbrev types : List SqlType
    types = map (arg_type c range) (args_of items)

    abbrev IsLine : Summary → Type 0
    IsLine g = ArePrintable (item_types c range keys items) (line (shown_from 0 items) g)

    each-line : (gs : List (List Seen)) → AllByRecursion (AllByRecursion (IsSeen types)) gs → AllByRecursion (λ ss. IsLine (summary (calls_of items) ss)) gs
    each-line [] all = tt
    each-line (ss ∷ gs) all = (items-shown types ss all.0 (summary (calls_of items) ss) refl 0 items (from-first Null (all_called 0 (calls_of items) ss)) (from-first Int8 types), each-line gs all.1)

    lines-each : (width : ℕ) (order : List Sorter) (ss : List Seen) → AllByRecursion (IsSeen types) ss
        → All (ArePrintable (item_types c range keys items)) (lines (record { width = width; calls = calls_of items; items = shown_from 0 items; order = order }) ss)
    lines-each width order ss all =
        let gs = map (summary (calls_of items)) (groups width ss) in
        let each : AllByRecursion IsLine gs = each-map IsLine (summary (calls_of items)) (groups width ss) (each-line (groups width ss) (groups-each (IsSeen types) width ss all)) in
        All-from_recursion (ArePrintable (item_types c range keys items)) (map (line (shown_from 0 items)) (sorted order gs))
        (each-map (ArePrintable (item_types c range keys items)) (line (shown_from 0 items)) (sorted order gs) (sorted-each IsLine (one_after_other (map sorter_order order)) gs each))

-- what is seen of a tuple of a world
module _ (w : World) (q : Query) (t : Tuple) (fits : Fits (type_in w.contents q.range) (value_at w q t)) where
  keys-seen : (keys : List ColRef) (n : ℕ) → IsPrintable (key_type w.contents q.range keys n) (slice_index_or (map (value_at w q t) keys) n Null)
  keys-seen [] n = tt
  keys-seen (x ∷ xs) zero = typed-printable (type_in w.contents q.range x) (value_at w q t x) (fits x)
  keys-seen (x ∷ xs) (suc n) = keys-seen xs n

  args-seen : (args : List (Option ColRef)) (n : ℕ) → IsPrintable (slice_index_or (map (arg_type w.contents q.range) args) n Int8) (slice_index_or (map (arg_at w q t) args) n Null)
  args-seen [] n = tt
  args-seen (None ∷ xs) zero = tt
  args-seen (Some x ∷ xs) zero = typed-printable (type_in w.contents q.range x) (value_at w q t x) (fits x)
  args-seen (x ∷ xs) (suc n) = args-seen xs n

module _ (w : World) (q : Query) (g : GroupedQuery) (fits : (t : Tuple) → Fits (type_in w.contents q.range) (value_at w q t)) where
  all-seen : (ts : List Tuple) → AllByRecursion (IsSeen w.contents q.range g.keys (map (arg_type w.contents q.range) (args_of g.items))) (seen_all w q g ts)
  all-seen [] = tt
  all-seen (t ∷ ts) = (record { of_keys = keys-seen w q t (fits t) g.keys; of_args = args-seen w q t (fits t) (args_of g.items) }, all-seen ts)

  pub lines-printable : (p : GroupPlan) (ts : List Tuple) (shown : List (List Value)) → shown ≡ final_lines g p (seen_all w q g ts)
      → All (ArePrintable (item_types w.contents q.range g.keys g.items)) shown
  lines-printable p ts shown is =
      let P : List (List Value) → Type 0 = λ ls. All (ArePrintable (item_types w.contents q.range g.keys g.items)) ls in
      subst P (sym is) (lines-each w.contents q.range g.keys g.items (length g.keys) (final_shape p.sort_after (shape_of g)).order (seen_all w q g ts) (all-seen ts))
