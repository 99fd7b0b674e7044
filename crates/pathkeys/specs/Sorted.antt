-- Rows sorted by keys. Source: PostgreSQL, src/backend/optimizer/README (PathKeys).
use Rattle.std.specs.Prelude.{map, Option, Some, None}
use Rattle.std.specs.declared.cmp.Ordering.{Ordering}
use Rattle.std.specs.declared.cmp.Ordering.TheVariants.{Equal}
use Rattle.catalog.specs.pg_value_value_Value.{Value}
use Rattle.catalog.specs.pg_value_ColumnOrder.{column_order}
use Rattle.catalog.specs.pg_value_Sorting.{one_after_other}
use Rattle.catalog.specs.pg_expr_operand_ColRef.{ColRef}
use Rattle.eq_classes.specs.Classes.{Class}
use Rattle.eq_classes.specs.Clauses.{Set, ClassTable, first_in}
use Rattle.eq_classes.specs.Listing.{class_at}
use Rattle.pathkeys.specs.Keys.{Keys}

-- how a class compares two rows by a member, in its family and direction; without a member they tie
abbrev pub order_at : Class → Option ColRef → (ColRef → Value) → (ColRef → Value) → Ordering
order_at c None a b = Equal
order_at c (Some x) a b = column_order c.family c.descending c.nulls_first (a x) (b x)

-- by its first member inside a set of relations
abbrev pub class_order : Class → Set → (ColRef → Value) → (ColRef → Value) → Ordering
class_order c set a b = order_at c (first_in c set) a b

-- by each class of a list in turn
abbrev pub keys_order : {X : Type 0} → (X → ColRef → Value) → ClassTable → Set → Keys → X → X → Ordering
keys_order value t set keys = one_after_other (map (λ n a b. class_order (class_at t.classes n) set (value a) (value b)) keys)
