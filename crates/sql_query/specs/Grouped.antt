-- A grouped SELECT with its names bound, without pointers (PostgreSQL manual, chapter Queries, GROUP BY; Aggregate Functions).
use Rattle.std.specs.Prelude.{List}
use Rattle.pg_expr.specs.declared.operand.ColRef.{ColRef}
use Rattle.eq_classes.specs.declared.order.OrderItem.{OrderItem}
use Rattle.sql_query.specs.declared.grouped.Item.{Item}
use Rattle.sql_query.specs.Queries.{Query}

-- the query whose tuples are grouped, the GROUP BY columns, what is shown of each group, and the items of ORDER BY
pub record GroupedQuery : Type 0 where
  pub base : Query
  pub keys : List ColRef
  pub items : List Item
  pub order : List OrderItem
