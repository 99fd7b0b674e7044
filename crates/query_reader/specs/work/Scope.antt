-- Working words beside those of `Scope`.
use Rattle.std.specs.Prelude.{◌≡◌, ◌<◌, ℕ, List, [], ◌∷◌, length, All, IsTrue, Option, MatchOption}
use Rattle.catalog.specs.Contents.{Contents, table_at}
use Rattle.pg_expr.specs.Cond.{Cond}
use Rattle.pg_expr.specs.declared.operand.ColRef.{ColRef}
use Rattle.pg_value.specs.declared.value.SqlType.{SqlType}
use Rattle.catalog.specs.Range.{Range, relation_at, type_in}
use Rattle.expr_reader.specs.declared.found.Found.{Found}
use Rattle.expr_reader.specs.declared.found.Found.TheVariants.{One, NoColumn, Many}
use Rattle.expr_reader.specs.Scope.{Scope, columns_in_scope, under}
use Rattle.path_cost.specs.work.Columns.{IsOver, is_column_in}
use Rattle.query_reader.specs.Scope.{columns_from, scope_after}

-- what names are looked up in: the contents of a catalogue, the relations of a query over it, and the first of those that are
-- visible
pub record Sight : Type 0 where
  pub contents : Contents
  pub range : Range
  pub first : ℕ

-- the columns that a name can mean: those of the relations that are visible
abbrev pub visible_in : Sight → Scope
visible_in s = scope_after s.contents s.first s.range

-- the columns of the relation of a number
abbrev pub own_columns : Sight → ℕ → Scope
own_columns s k = columns_from (relation_at s.range (record { 0 = k })).1 (record { 0 = k }) 0 (table_at s.contents (relation_at s.range (record { 0 = k })).0).names

-- what a name means where one more column has it
abbrev pub also : Found → ColRef → Found
also NoColumn x = One x
also _ x = Many

-- the types of the columns of the relations in which names are looked up
abbrev pub types_in : Sight → ColRef → SqlType
types_in s = type_in s.contents s.range

-- conditions are over the relations in which names are looked up
abbrev pub AreConditionsOver : Sight → List Cond → Type 0
AreConditionsOver s conditions = All (IsOver s.contents s.range) conditions

-- a column is one of the relations in which names are looked up
abbrev pub IsSeenColumn : Sight → ColRef → Type 0
IsSeenColumn s c = IsTrue (is_column_in s.contents s.range c)

-- a number is that of the visible relation under an alias
abbrev pub IsRelationUnder : List ℕ → Sight → ℕ → Type 0
IsRelationUnder alias s k = (k < length s.range) × (under alias (visible_in s) ≡ own_columns s k)

-- the one column of a scope, where there is one; there is no second one
abbrev pub IsOnlyColumn : Scope → Option ColRef → Type 0
IsOnlyColumn scope found = MatchOption found (scope ≡ []) (λ c. columns_in_scope scope ≡ c ∷ [])

-- the columns, by their numbers from 0 on, of the relation of a number, which have these names
abbrev pub numbered_columns : List ℕ → ℕ → List (List ℕ) → List ColRef
numbered_columns alias k names = columns_in_scope (columns_from alias (record { 0 = k }) 0 names)
