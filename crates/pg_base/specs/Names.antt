-- Names of tables and columns (PostgreSQL manual, chapter SQL Syntax, Identifiers; the limit is NAMEDATALEN less one).
use Rattle.std.specs.Prelude.{◌≡◌, ◌≢◌, ◌<◌, ◌≤◌, ◌||◌, ◌==◌, ℕ, Bool, true, List, [], ◌∷◌, length, take, slice_index_or, Contains, AllPairs}
use Rattle.std.specs.Char.{is_ascii_digit, is_ascii_lowercase}
use Rattle.std.specs.List.{list_all}
use Rattle.pg_base.specs.declared.limits.TheConstants.{MOST_NAME_BYTES}

-- a small letter or `_`
abbrev pub begins_name : ℕ → Bool
begins_name b = is_ascii_lowercase b || b == 95

-- a small letter, a digit, `_` or `$`
abbrev pub is_in_name : ℕ → Bool
is_in_name b = is_ascii_lowercase b || is_ascii_digit b || b == 95 || b == 36

-- a word in small letters, of 1 byte to the limit of a name
abbrev pub IsName : List ℕ → Type 0
IsName [] = ⊥
IsName (b ∷ bs) = (begins_name b ≡ true) × (list_all is_in_name bs ≡ true) × (length (b ∷ bs) ≤ MOST_NAME_BYTES)

-- no two of some names are the same
abbrev pub AreDistinct : List (List ℕ) → Type 0
AreDistinct names = AllPairs (λ a b. a ≢ b) names

-- the first name that stands before already is at a place
pub record IsFirstRepeat (names : List (List ℕ)) (place : ℕ) : Type 0 where
  pub within : place < length names
  pub before : AreDistinct (take place names)
  pub repeated : Contains (take place names) (slice_index_or names place [])
