-- Bounds of a column that are taken together. Own, in the manner of PostgreSQL's addRangeClause.
use Rattle.std.specs.Prelude.{ℕ, ◌+◌, ◌-◌, ◌&&◌, ◌||◌, min, max, Bool, true, false, not, List, map, Option, Some, None, slice_index_or}
use Rattle.std.specs.List.{list_any}
use Rattle.pg_value.specs.declared.operators.Op.{Op}
use Rattle.pg_value.specs.declared.operators.Op.TheVariants.{Lt, Le, Ge, Gt}
use Rattle.pg_value.specs.declared.operators.Truth.TheVariants.{True}
use Rattle.pg_value.specs.declared.value.Value.{Value}
use Rattle.pg_value.specs.declared.value.Value.TheVariants.{Null}
use Rattle.pg_expr.specs.declared.operand.ColRef.{ColRef}
use Rattle.pg_expr.specs.declared.operand.Operand.{Operand}
use Rattle.pg_expr.specs.declared.operand.Operand.TheVariants.{Col, Lit}
use Rattle.pg_expr.specs.Cond.{Cond, compare, const}
use Rattle.eq_classes.specs.Clauses.{Clause, ClassTable}
use Rattle.eq_classes.specs.Equality.{is_column}

-- the conditions of all clauses, by their numbers
abbrev pub conditions : ClassTable → List Cond
conditions t = map (λ (k : Clause). k.cond) t.clauses

-- the condition of a number of a list, the first being 0
abbrev pub listed_condition : List Cond → ℕ → Cond
listed_condition es n = slice_index_or es n (const True)

-- a bound of a column: the column, and whether it is from below
abbrev pub ColumnBound : Type 0
ColumnBound = ColRef × Bool

-- what an operator with a literal behind it is to a column: a bound from below, one from above, or none
abbrev pub bounded_side : Op → ColRef → Option ColumnBound
bounded_side Gt x = Some (x, true)
bounded_side Ge x = Some (x, true)
bounded_side Lt x = Some (x, false)
bounded_side Le x = Some (x, false)
bounded_side _ x = None

-- what an operator with a literal behind it is to a column, by the literal: NULL bounds nothing
abbrev pub bound_by_literal : Op → ColRef → Value → Option ColumnBound
bound_by_literal op x Null = None
bound_by_literal op x v = bounded_side op x

-- the bound that a comparison in pushed form is
abbrev pub bound_between : Op → Operand → Operand → Option ColumnBound
bound_between op (Col x) (Lit v) = bound_by_literal op x v
bound_between op l r = None

-- the bound that a condition is, if it is one
abbrev pub bound_of : Cond → Option ColumnBound
bound_of (compare op l r) = bound_between op l r
bound_of _ = None

-- one of two sides is the other
abbrev pub is_side : Bool → Bool → Bool
is_side true b = b
is_side false b = not b

-- a bound is one of a column from a side
abbrev pub is_bound_at : ColRef → Bool → Option ColumnBound → Bool
is_bound_at x below None = false
is_bound_at x below (Some (y, b)) = is_column x y && is_side below b

-- a list has a bound of a column from a side
abbrev pub has_bound : ColRef → Bool → List Cond → Bool
has_bound x below es = list_any (λ e. is_bound_at x below (bound_of e)) es

-- a list has a bound of a column
abbrev pub has_end : ColRef → List Cond → Bool
has_end x es = has_bound x true es || has_bound x false es

-- both ends of a range together, of so many rows in all: what both leave, and at least those of one value, but no more than
-- each end alone
abbrev pub both_ends : ℕ → ℕ → ℕ → ℕ → ℕ
both_ends all one a b = max (a + b - all) (min (min a b) one)
