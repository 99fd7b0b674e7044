-- The hash of lists of keys, by std's hasher: what it is fed of each value, its kind first. The choice is own.
use Rattle.std.specs.Prelude.{ℕ, List, [], ◌∷◌, ◌++◌, length}
use Rattle.std.specs.List.{fold, flat_map}
use Rattle.std.specs.Hash.{HashWrites, u8, i64, usize, bool}
use Rattle.std.specs.Hash.FoldHasher.{initial, write, finish}
use Rattle.pg_value.specs.declared.value.Value.{Value}
use Rattle.pg_value.specs.declared.value.Value.TheVariants.{Null, Int, Bool as Flag, Text as String}

-- what a value feeds: a number for its kind, and what it holds
abbrev pub fed : Value → HashWrites
fed Null = u8 0
fed (Int n) = u8 1 ++ i64 n
fed (Flag b) = u8 2 ++ bool b
fed (String bytes) = u8 3 ++ usize (length bytes) ++ bytes ∷ []

-- the hash of a list of keys
unfoldable pub hash_of : List Value → ℕ
hash_of keys = finish (fold write initial (flat_map fed keys))
