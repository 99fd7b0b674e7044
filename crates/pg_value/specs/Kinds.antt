-- An order of all values, for groups and sorts that are given no type. On values of one type it is the order of that type's
-- default family. Own.
use Rattle.std.specs.Prelude.{Bool, ℕ}
use Rattle.std.specs.Ordering.{nat_cmp, ordering_reverse, ordering_then}
use Rattle.std.specs.declared.cmp.Ordering.{Ordering}
use Rattle.std.specs.declared.cmp.Ordering.TheVariants.{Equal}
use Rattle.pg_value.specs.declared.value.Value.{Value}
use Rattle.pg_value.specs.declared.value.Value.TheVariants.{Null, Int, Bool as Flag, Text as String}
use Rattle.pg_value.specs.ColumnOrder.{directed, place_of_null}
use Rattle.pg_value.specs.Order.{value_order}
use Rattle.pg_value.specs.Truths.{kind_family}

-- the kinds in their order: NULL, whole numbers, truth values, texts
abbrev pub kind_place : Value → ℕ
kind_place Null = 0
kind_place (Int n) = 1
kind_place (Flag b) = 2
kind_place (String t) = 3

-- how two values stand to one another: by kind, and two of one kind by the kind's default family
abbrev pub kind_order : Value → Value → Ordering
kind_order v w = ordering_then (nat_cmp (kind_place v) (kind_place w)) (value_order (kind_family v) v w)

-- NULL stands where its place says, whatever the direction; other values by the order of all values, turned round where descending
abbrev pub directed_order : Bool → Bool → Value → Value → Ordering
directed_order descending nulls_first Null Null = Equal
directed_order descending nulls_first Null w = place_of_null nulls_first
directed_order descending nulls_first v Null = ordering_reverse (place_of_null nulls_first)
directed_order descending nulls_first v w = directed descending (kind_order v w)
