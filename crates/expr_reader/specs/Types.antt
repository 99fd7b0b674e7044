-- The names of types (PostgreSQL manual, chapter Data Types, table Data Types and its aliases).
use Rattle.std.specs.Prelude.{ℕ, List, [], ◌∷◌, codes, Option}
use Rattle.std.specs.List.{find, list_any}
use Rattle.std.specs.Str.{bytes_eq}
use Rattle.pg_value.specs.declared.value.SqlType.{SqlType}
use Rattle.pg_value.specs.declared.value.SqlType.TheVariants.{Int2, Int4, Int8, Text, Bool, Uuid, Date, Timestamp, TimestampTz, Numeric}

-- the names, of one word in small letters, that stand for a type by themselves; a numeric type has none without its sizes
abbrev pub type_names : SqlType → List (List ℕ)
type_names Int2 = codes "int2" ∷ codes "smallint" ∷ []
type_names Int4 = codes "int4" ∷ codes "int" ∷ codes "integer" ∷ []
type_names Int8 = codes "int8" ∷ codes "bigint" ∷ []
type_names Text = codes "text" ∷ codes "varchar" ∷ []
type_names Bool = codes "bool" ∷ codes "boolean" ∷ []
type_names Uuid = codes "uuid" ∷ []
type_names Date = codes "date" ∷ []
type_names Timestamp = codes "timestamp" ∷ []
type_names TimestampTz = codes "timestamptz" ∷ []
type_names (Numeric digits scale) = []

-- the types that have names
abbrev pub named_types : List SqlType
named_types = Int2 ∷ Int4 ∷ Int8 ∷ Text ∷ Bool ∷ Uuid ∷ Date ∷ Timestamp ∷ TimestampTz ∷ []

-- the type of a name
abbrev pub type_named : List ℕ → Option SqlType
type_named name = find (λ t. list_any (bytes_eq name) (type_names t)) named_types
