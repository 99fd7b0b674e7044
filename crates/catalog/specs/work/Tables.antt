-- Working words beside those of `Tables`.
use Rattle.std.specs.Prelude.{◌≡◌, ℕ, List, position, Contains, Option}
use Rattle.std.specs.Option.{option_map}
use Rattle.std.specs.Str.{bytes_eq}
use Rattle.pg_base.specs.declared.numbers.TableNo.{TableNo}
use Rattle.pg_base.specs.declared.numbers.ColNo.{ColNo}
use Rattle.pg_base.specs.declared.numbers.IndexNo.{IndexNo}
use Rattle.catalog.specs.Contents.{Contents, IsColumn, IsIndex, IsTable, index_name_at, index_names, name_at, table_at, table_names}
use Rattle.catalog.specs.Indexes.{Index, FitsColumns}

-- the index of a name
abbrev pub index_named : Contents → List ℕ → Option IndexNo
index_named c name = option_map (λ n. record { 0 = n }) (position (bytes_eq name) (index_names c))

-- the name is one of no table
abbrev pub IsFree : Contents → List ℕ → Type 0
IsFree c name = ¬ Contains (table_names c) name

-- the name is one of no index
abbrev pub IsFreeIndex : Contents → List ℕ → Type 0
IsFreeIndex c name = ¬ Contains (index_names c) name

-- the name is one of no column of the table
abbrev pub IsFreeColumn : Contents → TableNo → List ℕ → Type 0
IsFreeColumn c t name = ¬ Contains (table_at c t).names name

-- a table has the name
abbrev pub HasTableName : Contents → List ℕ → TableNo → Type 0
HasTableName c name t = IsTable c t × ((table_at c t).name ≡ name)

-- an index has the name
abbrev pub HasIndexName : Contents → List ℕ → IndexNo → Type 0
HasIndexName c name i = IsIndex c i × (index_name_at c i ≡ name)

-- a column of the table has the name
abbrev pub HasColumnName : Contents → TableNo → List ℕ → ColNo → Type 0
HasColumnName c t name column = IsColumn c t column × (name_at c t column ≡ name)

-- a definition fits the catalogue: it is one of a table there, and fits its columns
pub record Fits (c : Contents) (x : Index) : Type 0 where
  pub table : IsTable c x.table
  pub columns : FitsColumns (table_at c x.table).columns x
