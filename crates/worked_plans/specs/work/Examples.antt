-- A query of one table taken twice, for examples. Own.
use Rattle.std.specs.Prelude.{[], ◌∷◌}
use Rattle.pg_value.specs.declared.operators.Op.TheVariants.{Eq}
use Rattle.pg_expr.specs.declared.operand.ColRef.{ColRef}
use Rattle.pg_expr.specs.declared.operand.Operand.TheVariants.{Col}
use Rattle.pg_expr.specs.Cond.{Cond, compare}
use Rattle.catalog.specs.Range.{Range}

-- the first column of a relation
abbrev pub first_of_left : ColRef
first_of_left = record { rel = record { 0 = 0 }; col = record { 0 = 0 } }

-- the first column of the second relation
abbrev pub first_of_right : ColRef
first_of_right = record { rel = record { 0 = 1 }; col = record { 0 = 0 } }

-- the first columns of the two are equal
abbrev pub firsts_equal : Cond
firsts_equal = compare Eq (Col first_of_left) (Col first_of_right)

-- the first table as `a` and as `b`
abbrev pub twice : Range
twice = (record { 0 = 0 }, 97 ∷ []) ∷ (record { 0 = 0 }, 98 ∷ []) ∷ []
