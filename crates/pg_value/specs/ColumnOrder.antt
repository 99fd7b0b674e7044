-- The order of one column's values, with a direction and a place of NULL (PostgreSQL manual, chapter Queries, Sorting Rows).
use Rattle.std.specs.Prelude.{Bool, true, false}
use Rattle.std.specs.Ordering.{ordering_reverse}
use Rattle.std.specs.declared.cmp.Ordering.{Ordering}
use Rattle.std.specs.declared.cmp.Ordering.TheVariants.{Less, Equal, Greater}
use Rattle.pg_value.specs.declared.operators.Family.{Family}
use Rattle.pg_value.specs.declared.value.Value.{Value}
use Rattle.pg_value.specs.declared.value.Value.TheVariants.{Null}
use Rattle.pg_value.specs.Order.{value_order}

-- NULL stands before all others where it is first, else after them
abbrev pub place_of_null : Bool → Ordering
place_of_null true = Less
place_of_null false = Greater

-- an order of two values, turned round where descending
abbrev pub directed : Bool → Ordering → Ordering
directed false o = o
directed true o = ordering_reverse o

-- NULL stands where its place says, whatever the direction; other values by the family's order, turned round where descending
abbrev pub column_order : Family → Bool → Bool → Value → Value → Ordering
column_order f descending nulls_first Null Null = Equal
column_order f descending nulls_first Null w = place_of_null nulls_first
column_order f descending nulls_first v Null = ordering_reverse (place_of_null nulls_first)
column_order f descending nulls_first v w = directed descending (value_order f v w)
