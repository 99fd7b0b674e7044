-- What a grouped query shows of the tuples of its relations.
use Rattle.std.specs.Prelude.{ℕ, suc, List, [], ◌∷◌, length, map, filter_map, position, Option, Some, None}
use Rattle.eq_classes.specs.Equality.{is_column}
use Rattle.eq_classes.specs.declared.order.OrderItem.{OrderItem}
use Rattle.pg_expr.specs.declared.operand.ColRef.{ColRef}
use Rattle.sql_query.specs.Grouped.{GroupedQuery}
use Rattle.sql_query.specs.declared.grouped.Item.{Item}
use Rattle.sql_query.specs.declared.grouped.Item.TheVariants as items
use Rattle.group_values.specs.Shapes.{GroupShape}
use Rattle.group_values.specs.declared.shape.Call.{Call}
use Rattle.group_values.specs.declared.shape.Call.TheVariants as calls
use Rattle.group_values.specs.declared.shape.Shown.{Shown}
use Rattle.group_values.specs.declared.shape.Shown.TheVariants as shown
use Rattle.group_values.specs.declared.shape.Sorter.{Sorter}

-- the call that an item is
abbrev pub call_in : Item → Option Call
call_in (items.Key n) = None
call_in items.CountAll = Some calls.CountAll
call_in (items.Count x) = Some calls.Count
call_in (items.Min x) = Some calls.Min
call_in (items.Max x) = Some calls.Max

-- the calls, from the left
abbrev pub calls_of : List Item → List Call
calls_of is = filter_map call_in is

-- the column of the call that an item is; count(*) has none
abbrev pub arg_in : Item → Option (Option ColRef)
arg_in (items.Key n) = None
arg_in items.CountAll = Some None
arg_in (items.Count x) = Some (Some x)
arg_in (items.Min x) = Some (Some x)
arg_in (items.Max x) = Some (Some x)

-- the column of each call
abbrev pub args_of : List Item → List (Option ColRef)
args_of is = filter_map arg_in is

-- what an item shows, where so many calls stand before it
abbrev pub shown_at : ℕ → Item → Shown
shown_at n (items.Key k) = shown.Key k
shown_at n _ = shown.Called n

-- how many calls stand before the next item
abbrev pub calls_after : ℕ → Item → ℕ
calls_after n (items.Key k) = n
calls_after n _ = suc n

-- what the items show, where so many calls stand before them
abbrev pub shown_from : ℕ → List Item → List Shown
shown_from n [] = []
shown_from n (i ∷ is) = shown_at n i ∷ shown_from (calls_after n i) is

-- a place, 0 where there is none
abbrev pub place_or : Option ℕ → ℕ
place_or None = 0
place_or (Some n) = n

-- where a column stands first among the GROUP BY columns, from 0
abbrev pub place_in : List ColRef → ColRef → ℕ
place_in keys x = place_or (position (is_column x) keys)

-- an item of ORDER BY, by the place of its column
abbrev pub sorter_in : List ColRef → OrderItem → Sorter
sorter_in keys i = record { place = place_in keys i.col; descending = i.descending; nulls_first = i.nulls_first }

-- what is shown of the groups of a grouped query
abbrev pub shape_of : GroupedQuery → GroupShape
shape_of g = record { width = length g.keys; calls = calls_of g.items; items = shown_from 0 g.items; order = map (sorter_in g.keys) g.order }
