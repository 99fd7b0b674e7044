-- Working words beside those of `WellBound`.
use Rattle.std.specs.Prelude.{◌≡◌, false, Some, IsTrue}
use Rattle.catalog.specs.Contents.{Contents}
use Rattle.catalog.specs.Range.{type_in}
use Rattle.eq_classes.specs.declared.order.OrderItem.{OrderItem}
use Rattle.eq_classes.specs.Classes.{Class, direction_by, orders_by}
use Rattle.eq_classes.specs.Clauses.{has_constant}
use Rattle.eq_classes.specs.work.Holding.{HasClass}
use Rattle.sql_query.specs.Queries.{Query}

-- an item has the direction of the class that it is by, where that has no constant
abbrev pub IsDirectedBy : Contents → Query → OrderItem → Type 0
IsDirectedBy c q item = (k : Class) → HasClass q.classes k → IsTrue (orders_by (type_in c q.range) k item) → has_constant k ≡ false →
    direction_by (Some item) ≡ (k.descending, k.nulls_first)
