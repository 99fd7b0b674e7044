-- The columns that are visible over the relations of a query (PostgreSQL manual, chapter Value Expressions, Column References).
use Rattle.std.specs.Prelude.{ℕ, ◌+◌, List, [], ◌∷◌, ◌++◌, drop}
use Rattle.pg_base.specs.declared.numbers.RelNo.{RelNo}
use Rattle.catalog.specs.Contents.{Contents, table_at}
use Rattle.catalog.specs.Range.{Range}
use Rattle.expr_reader.specs.Scope.{Scope}

-- the columns of a relation that have these names, from column k on
abbrev pub columns_from : List ℕ → RelNo → ℕ → List (List ℕ) → Scope
columns_from alias rel k [] = []
columns_from alias rel k (name ∷ names) =
    record { alias = alias; name = name; column = record { rel = rel; col = record { 0 = k } } } ∷ columns_from alias rel (k + 1) names

-- the columns of these relations, from relation k on
abbrev pub relations_from : Contents → ℕ → Range → Scope
relations_from c k [] = []
relations_from c k ((table, alias) ∷ range) = columns_from alias (record { 0 = k }) 0 (table_at c table).names ++ relations_from c (k + 1) range

-- every column of every relation in order
abbrev pub scope_of : Contents → Range → Scope
scope_of c range = relations_from c 0 range

-- every column of the relations from this one on: a condition of a join sees those of its own group
abbrev pub scope_after : Contents → ℕ → Range → Scope
scope_after c first range = relations_from c first (drop first range)
