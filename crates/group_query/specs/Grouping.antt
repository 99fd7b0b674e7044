-- A grouped query that is bound to a catalogue, and the orders in which its tuples may be asked for (PostgreSQL manual, chapter
-- Queries, GROUP BY; src/backend/optimizer/plan/planner.c, grouping_planner).
use Rattle.std.specs.Prelude.{◌≡◌, ◌<◌, ◌^◌, ℕ, false, List, [], ◌++◌, length, map, All, Contains, Option, Some, None}
use Rattle.pg_expr.specs.declared.operand.ColRef.{ColRef}
use Rattle.catalog.specs.Contents.{Contents}
use Rattle.catalog.specs.Range.{type_in}
use Rattle.eq_classes.specs.declared.order.OrderItem.{OrderItem}
use Rattle.eq_classes.specs.Classes.{Premises, conjuncts_in}
use Rattle.eq_classes.specs.Clauses.{ClassTable}
use Rattle.eq_classes.specs.Listing.{class_at}
use Rattle.pathkeys.specs.Keys.{order_class}
use Rattle.sql_query.specs.Grouped.{GroupedQuery}
use Rattle.sql_query.specs.Queries.{in_order_of}
use Rattle.sql_query.specs.WellBound.{IsColumnOf, IsWellBound, given_with}
use Rattle.sql_query.specs.declared.grouped.Item.{Item}
use Rattle.sql_query.specs.declared.grouped.Item.TheVariants.{Key, CountAll, Count, Min, Max}
use Rattle.group_query.specs.Shapes.{calls_of}

-- a GROUP BY column as an item of an order: ascending with NULLs last
abbrev pub plain_item : ColRef → OrderItem
plain_item x = record { col = x; descending = false; nulls_first = false }

-- the items of which the classes of a grouped query are made: those of ORDER BY, and behind them the GROUP BY columns
abbrev pub class_items : GroupedQuery → List OrderItem
class_items g = g.order ++ map plain_item g.keys

-- what these classes are made of: the conjuncts too, and the types of columns
abbrev pub given_groups : Contents → GroupedQuery → Premises
given_groups c g = given_with c g.base (class_items g)

-- a column as an item with the direction and the place for NULL of a class; ascending with NULLs last where there is none
abbrev pub directed_item : ClassTable → ColRef → Option ℕ → OrderItem
directed_item t x None = plain_item x
directed_item t x (Some n) = record { col = x; descending = (class_at t.classes n).descending; nulls_first = (class_at t.classes n).nulls_first }

-- the GROUP BY columns as items of an order, each with the direction of its class
abbrev pub group_items : ClassTable → List ColRef → List OrderItem
group_items t xs = map (λ x. directed_item t x (order_class t x)) xs

-- what is shown is there: a GROUP BY column by its place, or a column of a relation
abbrev pub IsItemOf : Contents → GroupedQuery → Item → Type 0
IsItemOf c g (Key n) = n < length g.keys
IsItemOf c g CountAll = Unit {0}
IsItemOf c g (Count x) = IsColumnOf c g.base.range x
IsItemOf c g (Min x) = IsColumnOf c g.base.range x
IsItemOf c g (Max x) = IsColumnOf c g.base.range x

-- a grouped query over the catalogue: its tuples are those of a query without an order and a window, which is well bound, and
-- so it is in the order of the GROUP BY columns and in that of ORDER BY; what it shows is there, and ORDER BY is by GROUP BY
-- columns; the places of GROUP BY columns and of calls are numbers of 32 bits
pub record IsWellGrouped (c : Contents) (g : GroupedQuery) : Type 0 where
  pub base : IsWellBound c g.base
  pub plain : g.base.order ≡ []
  pub whole : g.base.window ≡ None
  pub by_groups : IsWellBound c (in_order_of g.base (group_items g.base.classes g.keys))
  pub by_lines : IsWellBound c (in_order_of g.base g.order)
  pub keys : All (IsColumnOf c g.base.range) g.keys
  pub items : All (IsItemOf c g) g.items
  pub order : All (λ i. Contains g.keys i.col) g.order
  pub few_keys : length g.keys < 2 ^ 32
  pub few_calls : length (calls_of g.items) < 2 ^ 32
