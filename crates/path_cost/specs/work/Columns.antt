-- Working words beside those of `Columns`.
use Rattle.std.specs.Prelude.{ℕ, ◌&&◌, Bool, length, nat_lt, All, IsTrue, Option, List}
use Rattle.pg_expr.specs.declared.operand.ColRef.{ColRef}
use Rattle.pg_expr.specs.Columns.{each_column}
use Rattle.pg_expr.specs.Cond.{Cond}
use Rattle.pg_expr.specs.Typed.{IsTyped}
use Rattle.pg_expr.specs.work.View as view
use Rattle.catalog.specs.Contents.{Contents, IsTable, table_at}
use Rattle.catalog.specs.Range.{Range, table_of, type_in}
use Rattle.std.specs.Option.{option_map}
use Rattle.pg_expr.specs.declared.expr.Expr.{Expr}
use Rattle.path_cost.specs.Columns.{known_statistics}

-- a column is one of a relation's table
abbrev pub is_column_in : Contents → Range → ColRef → Bool
is_column_in c range x = nat_lt x.rel.0 (length range) && nat_lt x.col.0 (length (table_at c (table_of range x)).columns)

-- each relation is a table of the catalogue
abbrev pub AreTables : Contents → Range → Type 0
AreTables c range = All (λ r. IsTable c r.0) range

-- a condition is over the relations: its columns are theirs, and it is well typed
pub record IsOver (c : Contents) (range : Range) (e : Cond) : Type 0 where
  pub columns : IsTrue (each_column (is_column_in c range) e)
  pub typed : IsTyped (type_in c range) e

-- each of some expressions is over the relations
abbrev pub AreOver : Contents → Range → List Expr → Type 0
AreOver c range es = All (λ (e : Expr). IsOver c range (view.cond e)) es

-- the share of a column's NULLs, where statistics say it
abbrev pub nulls_known : Contents → Range → ColRef → Option ℕ
nulls_known c range x = option_map (λ s. s.nulls) (known_statistics c range x)
