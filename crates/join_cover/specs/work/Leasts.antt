-- The least of the entries of a set that are given no rows. Own.
use Rattle.std.specs.Prelude.{◌≡◌, ◌<◌, ◌≤◌, ℕ, List, MatchOption, Option, Some, slice_get, map, ◌+◌}
use Rattle.plan_check.specs.Certificates.{Entry}
use Rattle.pg_base.specs.declared.rel_set.RelSet.{RelSet}
use Rattle.plan_check.specs.work.Placing.{place_at}
use Rattle.plan_check.specs.work.Views.{certificate, entry}
use Rattle.plan_check.specs.declared.entry.Entry.{Entry as Entered}
use Rattle.plan_check.specs.declared.judged.Judged.{Judged}
use Rattle.plan_check.specs.declared.places.SetPlaces.{SetPlaces}

module _ (es : List Entry) (s : ℕ) where
  -- the entry at a place is of the set, and is given no rows
  pub record IsWhole (k : ℕ) : Type 0 where
    pub entry : Entry
    pub stands : slice_get es k ≡ Some entry
    pub same : entry.set.0 ≡ s
    pub whole : entry.param.0 ≡ 0

  -- of all entries of the set that are given no rows none costs less in all than the one at a place
  pub record IsLeastWhole (k : ℕ) : Type 0 where
    pub is : IsWhole k
    pub least : (l : ℕ) (other : IsWhole l) → is.entry.cost ≤ other.entry.cost

  -- the entry at a place is of the set, given no rows, of this cost, and none of those at the ranks from one on and before
  -- another costs less in all
  pub record IsLeastAt (p : SetPlaces) (from i : ℕ) (found : ℕ × ℕ) : Type 0 where
    pub is : IsWhole found.0
    pub cost_is : found.1 ≡ is.entry.cost
    pub least : (r : ℕ) → from ≤ r → r < i → (other : IsWhole (place_at p r)) → found.1 ≤ other.entry.cost

  -- the entry of the set, given no rows, that costs least of those at the ranks from one on and before another; none where
  -- there is none
  abbrev pub IsLeastFrom : SetPlaces → ℕ → ℕ → Option (ℕ × ℕ) → Type 0
  IsLeastFrom p from i found = MatchOption found ((r : ℕ) → from ≤ r → r < i → ¬ IsWhole (place_at p r)) (λ x. IsLeastAt p from i x)

-- the least of the entries before the rank of a place becomes that of those before the next one
abbrev pub TakesNext : List Entered → RelSet → ℕ → Option (ℕ × ℕ) → Option (ℕ × ℕ) → Type 0
TakesNext es set n found new =
    (p : SetPlaces) (from i : ℕ) → place_at p i ≡ n → IsLeastFrom (map entry es) set.0 p from i found → IsLeastFrom (map entry es) set.0 p from (i + 1) new

-- no entry of the set that is judged with it is given no rows
abbrev pub HasNoWhole : Judged → RelSet → Type 0
HasNoWhole j set = (k : ℕ) → ¬ IsWhole (certificate j.t.now).entries set.0 k
