-- Groups of tuples and the lines that they give (PostgreSQL manual, chapter Queries, GROUP BY; Aggregate Functions).
use Rattle.std.specs.Prelude.{ℕ, zero, suc, Bool, true, false, not, cond, List, [], ◌∷◌, length, map, filter, pos, slice_index_or}
use Rattle.std.specs.Ordering.{is_eq, on}
use Rattle.std.specs.declared.cmp.Ordering.{Ordering}
use Rattle.pg_value.specs.declared.value.Value.{Value}
use Rattle.pg_value.specs.declared.value.Value.TheVariants.{Null, Int}
use Rattle.pg_value.specs.Kinds.{directed_order, kind_order}
use Rattle.pg_value.specs.Sorting.{in_order, one_after_other}
use Rattle.group_values.specs.declared.shape.Call.{Call}
use Rattle.group_values.specs.declared.shape.Call.TheVariants.{CountAll, Count, Min, Max}
use Rattle.group_values.specs.declared.shape.Shown.{Shown}
use Rattle.group_values.specs.declared.shape.Shown.TheVariants.{Key, Called}
use Rattle.group_values.specs.declared.shape.Sorter.{Sorter}
use Rattle.group_values.specs.Shapes.{GroupShape, Summary}

-- what is seen of a tuple: the values of the GROUP BY columns, and that of each call's column (for `count(*)` any value, which
-- is not looked at)
pub record Seen : Type 0 where
  pub keys : List Value
  pub args : List Value

-- two values are both NULL, or equal
abbrev pub same_value : Value → Value → Bool
same_value v w = is_eq (kind_order v w)

-- each column's values are both NULL or equal
abbrev pub same_keys : List Value → List Value → Bool
same_keys [] [] = true
same_keys (v ∷ vs) (w ∷ ws) = cond (same_value v w) (same_keys vs ws) false
same_keys _ _ = false

-- two tuples are of one group
abbrev pub alike : Seen → Seen → Bool
alike s t = same_keys s.keys t.keys

-- the first of each group, in order
abbrev pub firsts : List Seen → List Seen
firsts [] = []
firsts (s ∷ ss) = s ∷ filter (λ t. not (alike s t)) (firsts ss)

-- the groups by so many columns, in the order of their first tuples; without columns all tuples are one group, also where there
-- is none
abbrev pub groups : ℕ → List Seen → List (List Seen)
groups zero ss = ss ∷ []
groups (suc n) ss = map (λ s. filter (alike s) ss) (firsts ss)

-- whether a value is not NULL
abbrev pub is_known : Value → Bool
is_known Null = false
is_known _ = true

-- the values of a call's column in a group that are not NULL
abbrev pub values_of_call : ℕ → List Seen → List Value
values_of_call n ss = filter is_known (map (λ (s : Seen). slice_index_or s.args n Null) ss)

-- what min and max give of the values in their order: NULL of none
abbrev pub first_or_null : List Value → Value
first_or_null [] = Null
first_or_null (v ∷ vs) = v

-- a number of tuples as a value, an int8
abbrev pub count_value : ℕ → Value
count_value n = Int (pos n)

-- what a call gives, where its column is the one of this number: the number of tuples, that of the values that are not NULL,
-- the least or the greatest of these, NULL where there is none
abbrev pub called : Call → ℕ → List Seen → Value
called CountAll n ss = count_value (length ss)
called Count n ss = count_value (length (values_of_call n ss))
called Min n ss = first_or_null (in_order (directed_order false false) (values_of_call n ss))
called Max n ss = first_or_null (in_order (directed_order true false) (values_of_call n ss))

-- what calls give, the first of which has the column of this number
abbrev pub all_called : ℕ → List Call → List Seen → List Value
all_called n [] ss = []
all_called n (c ∷ cs) ss = called c n ss ∷ all_called (suc n) cs ss

-- the values of the GROUP BY columns in a group: they are the same at each of its tuples
abbrev pub keys_of_group : List Seen → List Value
keys_of_group [] = []
keys_of_group (s ∷ ss) = s.keys

-- what is known of a group
abbrev pub summary : List Call → List Seen → Summary
summary calls ss = record { keys = keys_of_group ss; called = all_called 0 calls ss }

-- what is known of each group of these tuples, in the order of the groups' first tuples
abbrev pub summaries : GroupShape → List Seen → List Summary
summaries shape ss = map (summary shape.calls) (groups shape.width ss)

-- what an item of the list shows of a group
abbrev pub shown_value : Summary → Shown → Value
shown_value g (Key n) = slice_index_or g.keys n Null
shown_value g (Called n) = slice_index_or g.called n Null

-- the line of a group
abbrev pub line : List Shown → Summary → List Value
line items g = map (shown_value g) items

-- a group's value of the GROUP BY column that an item of ORDER BY names
abbrev pub key_at : Sorter → Summary → Value
key_at o g = slice_index_or g.keys o.place Null

-- the order of groups by an item of ORDER BY, with its direction and its place for NULL
abbrev pub sorter_order : Sorter → Summary → Summary → Ordering
sorter_order o = on (key_at o) (directed_order o.descending o.nulls_first)

-- the groups sorted by such items; those that tie keep their places, as all do where there is no item
abbrev pub sorted : List Sorter → List Summary → List Summary
sorted order gs = in_order (one_after_other (map sorter_order order)) gs

-- the lines of groups
abbrev pub lines_of_groups : GroupShape → List Summary → List (List Value)
lines_of_groups shape gs = map (line shape.items) (sorted shape.order gs)

-- one line for each group of tuples
abbrev pub lines : GroupShape → List Seen → List (List Value)
lines shape ss = lines_of_groups shape (summaries shape ss)
