-- Sets of row numbers as their members in order. Own, in the manner of PostgreSQL's bitmaps of heap rows.
use Rattle.std.specs.Prelude.{ℕ, ◌<◌, ◌/◌, ◌%◌, Bool, not, nat_eq, nat_lt, List, slice_index_or, ◌≡◌, ◌≤◌, ◌&&◌, ◌||◌, true, false}
use Rattle.std.specs.List.{All, AllPairs, filter, list_any, range_with_len}
use Rattle.pg_base.specs.Sets.{has}

-- row numbers, all below a bound
pub record TidSet : Type 0 where
  pub bound : ℕ
  pub members : List ℕ

-- in order, each once, and below the bound
pub record IsTidSet (s : TidSet) : Type 0 where
  pub ordered : AllPairs ◌<◌ s.members
  pub within : All (λ n. n < s.bound) s.members

-- a row number is in a set, by its members
abbrev pub is_member : List ℕ → ℕ → Bool
is_member ns n = list_any (nat_eq n) ns

-- the numbers below a bound that pass a test, in order
abbrev pub rows_passing : ℕ → (ℕ → Bool) → List ℕ
rows_passing bound test = filter test (range_with_len 0 bound)

-- the members from a number on
abbrev pub not_below : ℕ → List ℕ → List ℕ
not_below t ns = filter (λ n. not (nat_lt n t)) ns

-- the bit of a number in words of 64 bits is 1
abbrev pub is_marked : List ℕ → ℕ → Bool
is_marked words n = has (slice_index_or words (n / 64) 0) (n % 64)

-- the set, of the same bound, of the row numbers that pass a test
abbrev pub with_members : TidSet → (ℕ → Bool) → TidSet
with_members s test = record { bound = s.bound; members = rows_passing s.bound test }

-- a set with one more member
abbrev pub with_member : TidSet → ℕ → TidSet
with_member s t = with_members s (λ n. nat_eq n t || is_member s.members n)

-- what two sets have in common
abbrev pub common_rows : TidSet → TidSet → TidSet
common_rows s o = with_members s (λ n. is_member s.members n && is_member o.members n)

-- what two sets have together
abbrev pub rows_of_either : TidSet → TidSet → TidSet
rows_of_either s o = with_members s (λ n. is_member s.members n || is_member o.members n)

-- the least marked number from one on
abbrev pub IsNextMarked : List ℕ → ℕ → ℕ → Type 0
IsNextMarked words from m = (from ≤ m) × (is_marked words m ≡ true) × ((n : ℕ) → from ≤ n → n < m → is_marked words n ≡ false)

-- the least bit of a word from one on
abbrev pub IsNextBit : ℕ → ℕ → ℕ → Type 0
IsNextBit word from b = (from ≤ b) × (b < 64) × (has word b ≡ true) × ((k : ℕ) → from ≤ k → k < b → has word k ≡ false)
