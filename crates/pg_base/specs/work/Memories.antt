-- What a source and a sink in memory stand for.
use Rattle.std.specs.Prelude.{ℕ, ◌+◌, ◌-◌, ◌^◌, min, List, Bool, nat_eq}
use Rattle.std.specs.List.{list_any}

-- bytes to be given
pub record Feed : Type 0 where
  -- the bytes that are left
  pub left : List ℕ
  -- the most bytes that one call gives
  pub piece : ℕ
  -- the numbers of the calls that fail, from 1
  pub fails : List ℕ
  pub calls : ℕ
  pub faults : ℕ

-- bytes that were taken
pub record Hoard : Type 0 where
  pub held : List ℕ
  -- the most bytes that are held
  pub room : ℕ
  -- the numbers of the calls that fail, from 1
  pub fails : List ℕ
  pub calls : ℕ
  pub faults : ℕ

-- one more, where a u64 counts
abbrev pub one_more : ℕ → ℕ
one_more n = min (n + 1) (2 ^ 64 - 1)

-- the next call is one that fails
abbrev pub fails_next : List ℕ → ℕ → Bool
fails_next fails calls = list_any (λ k. nat_eq k (one_more calls)) fails
