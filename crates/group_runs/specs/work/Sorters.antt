-- The items of ORDER BY of a query whose tuples are grouped, over the values of the GROUP BY columns.
use Rattle.std.specs.Prelude.{◌≡◌, List, Some, slice_get}
use Rattle.std.specs.List.{AllZip}
use Rattle.eq_classes.specs.declared.order.OrderItem.{OrderItem}
use Rattle.pg_expr.specs.declared.operand.ColRef.{ColRef}
use Rattle.group_values.specs.declared.shape.Sorter.{Sorter}

-- an item's column stands at this place among the GROUP BY columns, with the item's direction and place for NULL
pub record IsSorterOf (keys : List ColRef) (item : OrderItem) (s : Sorter) : Type 0 where
  pub column : slice_get keys s.place ≡ Some item.col
  pub descending : s.descending ≡ item.descending
  pub nulls_first : s.nulls_first ≡ item.nulls_first

-- all items of ORDER BY, in turn: each names a GROUP BY column
abbrev pub AreSortersOf : List ColRef → List OrderItem → List Sorter → Type 0
AreSortersOf keys items sorters = AllZip (IsSorterOf keys) items sorters
