-- Working words beside those of `Sorted`.
use Rattle.std.specs.Prelude.{List}
use Rattle.catalog.specs.pg_value_value_Value.{Value}
use Rattle.catalog.specs.pg_value_Sorting.{IsInOrder}
use Rattle.catalog.specs.pg_expr_operand_ColRef.{ColRef}
use Rattle.eq_classes.specs.Clauses.{Set, ClassTable}
use Rattle.pathkeys.specs.Keys.{Keys}
use Rattle.pathkeys.specs.Sorted.{keys_order}

-- no row of a list is after a later one by the keys
abbrev pub IsSortedByKeys : {X : Type 0} → (X → ColRef → Value) → ClassTable → Set → Keys → List X → Type 0
IsSortedByKeys value t set keys = IsInOrder (keys_order value t set keys)
