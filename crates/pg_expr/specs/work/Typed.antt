-- Working words beside those of `Typed`.
use Rattle.std.specs.Prelude.{◌≡◌, Bool, IsTrue}
use Rattle.pg_value.specs.declared.value.SqlType.{SqlType}
use Rattle.pg_value.specs.declared.value.Value.{Value}
use Rattle.pg_value.specs.Types.{IsOfType}
use Rattle.pg_expr.specs.declared.operand.ColRef.{ColRef}
use Rattle.pg_expr.specs.Cond.{Cond}
use Rattle.pg_expr.specs.Truths.{truth_at}
use Rattle.pg_expr.specs.Columns.{each_column}
use Rattle.pg_expr.specs.Typed.{IsTyped}

-- each column that is bound has a value that is NULL or of its type
abbrev pub FitsTypes : (ColRef → SqlType) → (ColRef → Bool) → (ColRef → Value) → Type 0
FitsTypes type_of binds value_at = (c : ColRef) → IsTrue (binds c) → IsOfType (type_of c) (value_at c)

-- a condition has the truth of another under every binding that fits the types and binds its columns, where the other is well typed
abbrev pub HasTruthOf : Cond → Cond → Type 0
HasTruthOf other c = (type_of : ColRef → SqlType) (binds : ColRef → Bool) (value_at : ColRef → Value) →
    IsTyped type_of other → IsTrue (each_column binds other) → FitsTypes type_of binds value_at → truth_at value_at c ≡ truth_at value_at other
