-- Working words beside those of `Atoms`.
use Rattle.std.specs.Prelude.{Bool, true, false, IsTrue, List}
use Rattle.pg_value.specs.declared.columns.Column.{Column}
use Rattle.pg_expr.specs.declared.operand.Operand.TheVariants.{Col, Lit}
use Rattle.pg_expr.specs.Columns.{some_column}
use Rattle.predicate_proof.specs.declared.atoms.Comparison.{Comparison}
use Rattle.pg_expr.specs.Cond.{Cond, compare, is_not_null, all_of}
use Rattle.predicate_proof.specs.Atoms.{has_column_number, TableGives}

-- a condition is an AND
abbrev pub is_all : Cond → Bool
is_all (all_of cs) = true
is_all _ = false

-- a comparison of a column with a literal implies another by the table
abbrev pub Gives : List Column → Comparison → Comparison → Type 0
Gives columns given wanted = TableGives columns given.op given.col given.value.now wanted.op wanted.col wanted.value.now

-- what a comparison implies beside its equals: IS NOT NULL of each column in it, and by the table comparisons of its column
abbrev pub ComparisonGives : List Column → Cond → Cond → Type 0
ComparisonGives columns (compare op l r) (is_not_null d) = IsTrue (some_column (has_column_number d.col) (compare op l r))
ComparisonGives columns (compare op (Col c) (Lit v)) (compare other (Col d) (Lit w)) = TableGives columns op c.col v other d.col w
ComparisonGives columns _ _ = ⊥
