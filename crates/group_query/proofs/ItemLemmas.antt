-- The items of an order by the columns of GROUP BY.
use Rattle.std.proofs.Common.{◌≡◌, ℕ, refl}
use Rattle.std.specs.Prelude.{Option, Some, None}
use Rattle.pg_expr.specs.declared.operand.ColRef.{ColRef}
use Rattle.eq_classes.specs.Clauses.{ClassTable}
use Rattle.group_query.specs.Grouping.{directed_item}

-- the column of an item is what it is by
pub directed-column : (t : ClassTable) (x : ColRef) (o : Option ℕ) → (directed_item t x o).col ≡ x
directed-column t x None = refl
directed-column t x (Some n) = refl
