-- Which columns are visible and which one a name means (PostgreSQL manual, chapter Value Expressions, Column References).
use Rattle.std.specs.Prelude.{ℕ, List, [], ◌∷◌, map, filter, Option, Some, None}
use Rattle.std.specs.Str.{bytes_eq}
use Rattle.pg_expr.specs.declared.operand.ColRef.{ColRef}
use Rattle.expr_reader.specs.declared.found.Found.{Found}
use Rattle.expr_reader.specs.declared.found.Found.TheVariants.{One, NoTable, NoColumn, Many}

-- a visible column: the alias of its relation, its name and itself
pub record Visible : Type 0 where
  pub alias : List ℕ
  pub name : List ℕ
  pub column : ColRef

-- the visible columns, in order
abbrev pub Scope : Type 0
Scope = List Visible

-- the columns themselves
abbrev pub columns_in_scope : Scope → List ColRef
columns_in_scope scope = map (λ v. v.column) scope

-- the visible columns of the relations under an alias
abbrev pub under : List ℕ → Scope → Scope
under alias scope = filter (λ v. bytes_eq alias v.alias) scope

-- the visible columns of a name
abbrev pub of_name : List ℕ → Scope → Scope
of_name name scope = filter (λ v. bytes_eq name v.name) scope

-- the one column there
abbrev pub the_one : Scope → Found
the_one [] = NoColumn
the_one (v ∷ []) = One v.column
the_one (v ∷ w ∷ scope) = Many

-- the column of a name among those of one alias
abbrev pub among : List ℕ → Scope → Found
among name [] = NoTable
among name (v ∷ scope) = the_one (of_name name (v ∷ scope))

-- the column that a name means, with a qualifier or without
abbrev pub look_up : Scope → Option (List ℕ) → List ℕ → Found
look_up scope None name = the_one (of_name name scope)
look_up scope (Some alias) name = among name (under alias scope)
