-- Where the entries of each set stand. Own.
use Rattle.std.specs.Prelude.{◌≡◌, ◌<◌, ◌≤◌, ◌%◌, ℕ, List, get_or, length, slice_get, Some}
use Rattle.plan_check.specs.Certificates.{Entry}
use Rattle.plan_check.specs.declared.places.TheConstants.{MOST_SETS}
use Rattle.plan_check.specs.declared.places.SetPlaces.{SetPlaces}

-- the number by which a set is distinguished: its own, where the query has at most so many relations as it may have
abbrev pub slot : ℕ → ℕ
slot s = s % MOST_SETS

-- the places of the entries, by rank
abbrev pub order_of : SetPlaces → List ℕ
order_of p = p.order.now

-- the place at a rank
abbrev pub place_at : SetPlaces → ℕ → ℕ
place_at p i = get_or (order_of p) i 0

-- from which rank on and before which one its entries stand
abbrev pub first_of : SetPlaces → ℕ → ℕ
first_of p s = get_or p.first (slot s) 0

-- the rank behind the last entry of a set
abbrev pub past_of : SetPlaces → ℕ → ℕ
past_of p s = get_or p.past (slot s) 0

-- a rank is among those of a set
pub record IsAmong (p : SetPlaces) (s k : ℕ) : Type 0 where
  pub from : first_of p s ≤ k
  pub before : k < past_of p s

-- an entry of a set stands at a place of some rank among those of its set
pub record HasRankOf (p : SetPlaces) (s k : ℕ) : Type 0 where
  pub rank : ℕ
  pub within : rank < length (order_of p)
  pub is : place_at p rank ≡ k
  pub among : IsAmong p s rank

-- each entry does, in whatever order they stand; and at each rank stands the place of an entry
pub record ArePlaced (es : List Entry) (p : SetPlaces) : Type 0 where
  pub each : (k : ℕ) (e : Entry) → slice_get es k ≡ Some e → HasRankOf p e.set.0 k
  pub there : (i : ℕ) → i < length (order_of p) → place_at p i < length es

-- the ranks of a set take in one more, behind all others
pub record HasPut (p new : SetPlaces) (s k : ℕ) : Type 0 where
  pub same : order_of new ≡ order_of p
  pub here : IsAmong new s k
  pub kept : (t j : ℕ) → j ≤ k → IsAmong p t j → IsAmong new t j

-- the entry at a place is of a set
pub record IsOf (es : List Entry) (s k : ℕ) : Type 0 where
  pub entry : Entry
  pub stands : slice_get es k ≡ Some entry
  pub same : entry.set.0 ≡ s
