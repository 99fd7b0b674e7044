-- A query with its names bound to a catalogue, without pointers (PostgreSQL manual, chapter Queries; the list of used
-- columns is own).
use Rattle.std.specs.Prelude.{ℕ, nat_lt, List, length, Option}
use Rattle.pg_expr.specs.declared.operand.ColRef.{ColRef}
use Rattle.pg_expr.specs.Cond.{Cond}
use Rattle.catalog.specs.Range.{Range}
use Rattle.eq_classes.specs.declared.order.OrderItem.{OrderItem}
use Rattle.eq_classes.specs.Clauses.{Set, ClassTable}
use Rattle.sql_query.specs.declared.window.Window.{Window}

-- the relations in FROM order, the classes with the numbered clauses, the columns of the select list, the items of ORDER
-- BY, every column that is named, the conjuncts as written, and the window, where LIMIT or OFFSET is written
pub record Query : Type 0 where
  pub range : Range
  pub classes : ClassTable
  pub select : List ColRef
  pub order : List OrderItem
  pub used : List ColRef
  pub where_all : List Cond
  pub window : Option Window

-- the number of a query's relations
abbrev pub width : Query → ℕ
width q = length q.range

-- the set of a query's relations
abbrev pub all_of_query : Query → Set
all_of_query q k = nat_lt k (width q)

-- a query in another order
abbrev pub in_order_of : Query → List OrderItem → Query
in_order_of q order = record {
  range = q.range;
  classes = q.classes;
  select = q.select;
  order = order;
  used = q.used;
  where_all = q.where_all;
  window = q.window;
}
