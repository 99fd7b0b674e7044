-- The truth of conditions at a row of one table.
use Rattle.std.specs.Prelude.{◌≡◌, List, slice_get, IfSome}
use Rattle.pg_base.specs.declared.numbers.ColNo.{ColNo}
use Rattle.pg_value.specs.declared.columns.Column.{Column}
use Rattle.pg_value.specs.declared.operators.Truth.TheVariants.{True}
use Rattle.pg_value.specs.declared.value.Value.{Value}
use Rattle.pg_expr.specs.declared.operand.ColRef.{ColRef}
use Rattle.pg_expr.specs.Cond.{Cond}
use Rattle.pg_expr.specs.Truths.{truth_at}
use Rattle.pg_value.specs.Types.{IsOfType}

-- what a column stands for at a row, by its number alone
abbrev pub at_row : (ColNo → Value) → ColRef → Value
at_row row c = row c.col

-- each value of the row is NULL or of its column's type
abbrev pub FitsColumns : List Column → (ColNo → Value) → Type 0
FitsColumns columns row = (c : ColNo) → IfSome (slice_get columns c.0) (λ column. IsOfType column.typed (row c))

-- the predicate is True at each row of these columns at which the clause is
abbrev pub HoldsWherever : List Column → Cond → Cond → Type 0
HoldsWherever columns clause p = (row : ColNo → Value) → FitsColumns columns row → truth_at (at_row row) clause ≡ True → truth_at (at_row row) p ≡ True
