-- Where groups with given keys stand in a list. Own.
use Rattle.std.specs.Prelude.{◌≡◌, ℕ, ◌<◌, true, false, List, length, map}
use Rattle.pg_value.specs.declared.value.Value.{Value}
use Rattle.group_values.specs.Groups.{same_keys}
use Rattle.group_values.specs.Shapes.{Summary}
use Rattle.group_values.specs.work.Steps.{group_at}
use Rattle.group_values.specs.work.Hash.{hash_of}

-- the group at a place has these keys, NULL like NULL
abbrev pub IsGroupOf : List Summary → List Value → ℕ → Type 0
IsGroupOf gs keys n = (n < length gs) × (same_keys (group_at gs n).keys keys ≡ true)

-- no group has these keys, NULL like NULL
abbrev pub HasNoGroup : List Summary → List Value → Type 0
HasNoGroup gs keys = (n : ℕ) → n < length gs → same_keys (group_at gs n).keys keys ≡ false

-- the hashes of the keys of groups
abbrev pub hashes_of : List Summary → List ℕ
hashes_of gs = map (λ (g : Summary). hash_of g.keys) gs
