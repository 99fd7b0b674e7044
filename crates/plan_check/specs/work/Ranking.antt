-- The places of entries in another order. Own.
use Rattle.std.specs.Prelude.{◌≡◌, ◌<◌, ℕ, List, get_or, length}

-- the first places, as many as counted, in their own order
pub record AreFirstPlaces (places : List ℕ) (count : ℕ) : Type 0 where
  pub long : length places ≡ count
  pub each : (k : ℕ) → k < count → get_or places k 0 ≡ k

-- the rank at which a place stands
pub record HasRank (order : List ℕ) (k : ℕ) : Type 0 where
  pub rank : ℕ
  pub within : rank < length order
  pub is : get_or order rank 0 ≡ k

-- each of so many places stands at some rank, and no other number does
pub record AreRanked (order : List ℕ) (count : ℕ) : Type 0 where
  pub long : length order ≡ count
  pub each : (k : ℕ) → k < count → HasRank order k
  pub within : (i : ℕ) → i < length order → get_or order i 0 < count
