-- Working words beside those of `Equality`.
use Rattle.std.specs.Prelude.{Some, ◌≡◌}
use Rattle.opfamily.specs.pg_value_operators_Family.{Family}
use Rattle.opfamily.specs.pg_value_value_SqlType.{SqlType}
use Rattle.pg_expr.specs.declared.operand.ColRef.{ColRef}
use Rattle.pg_expr.specs.declared.operand.Operand.{Operand}
use Rattle.pg_expr.specs.Cond.{Cond}
use Rattle.pg_expr.specs.work.View as view
use Rattle.pg_expr.specs.declared.expr.Expr.{Expr}
use Rattle.eq_classes.specs.Equality.{equal_in, equality_in, as_clause}

-- an expression as it stands in the clause list
abbrev pub listed_as : (ColRef → SqlType) → Expr → Cond
listed_as type_of k = as_clause type_of (view.cond k)

-- an expression is the equality of a column and an operand in a family
abbrev pub IsEqualityOf : (ColRef → SqlType) → Expr → ColRef → Operand → Family → Type 0
IsEqualityOf type_of e c o f = equality_in type_of (view.cond e) ≡ Some (equal_in c o f)
