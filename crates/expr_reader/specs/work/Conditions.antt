-- Working words beside those of `Conditions`.
use Rattle.std.specs.Prelude.{◌≡◌, Bool, All, IsTrue, Ok}
use Rattle.pg_value.specs.declared.value.SqlType.{SqlType}
use Rattle.pg_expr.specs.declared.operand.ColRef.{ColRef}
use Rattle.pg_expr.specs.Columns.{each_column}
use Rattle.pg_expr.specs.Cond.{Cond}
use Rattle.sql_grammar.specs.Syntax.{column, Expr}
use Rattle.expr_reader.specs.Scope.{Scope}
use Rattle.expr_reader.specs.Conditions.{meaning_of_expr}

-- what each expression means over some visible columns and their types has this
abbrev pub EachMeaning : (Scope → (ColRef → SqlType) → Cond → Type 0) → Type 0
EachMeaning Has =
    (scope : Scope) (type_of : ColRef → SqlType) (e : Expr) (c : Cond) → meaning_of_expr scope type_of e ≡ Ok c →
    Has scope type_of c

-- each column that a condition names is a visible one: a test that all visible columns pass, each column of it passes
abbrev pub IsOfVisible : Scope → Cond → Type 0
IsOfVisible scope c = (test : ColRef → Bool) → All (λ v. IsTrue (test v.column)) scope → IsTrue (each_column test c)
