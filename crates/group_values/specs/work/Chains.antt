-- Slots in chains, one chain for each bucket of hashes. Own.
use Rattle.std.specs.Prelude.{◌≡◌, ℕ, ◌+◌, ◌%◌, ◌-◌, ◌^◌, ◌<◌, ◌≤◌, true, List, [], ◌∷◌, All, length, slice_index, slice_index_or, Option, None, Some, IfSome}
use Rattle.linked.specs.work.Lists.{AreLists, has, list_of, behind}
use Rattle.group_values.specs.declared.chains.Chains.{Chains}

-- the slot that stands first in the chain of a hash's bucket
abbrev pub first_for : List (Option ℕ) → ℕ → Option ℕ
first_for firsts hash = slice_index_or firsts (hash % length firsts) None

-- the slots of a chain from one on
abbrev pub chain_from : List (List ℕ) → Option ℕ → List ℕ
chain_from lists None = []
chain_from lists (Some slot) = slot ∷ behind slot (list_of lists slot)

-- as many lists as slots, and at most twice as many slots as buckets; each slot below a number stands in the chain of its hash
pub record AreChained (count : ℕ) (firsts : List (Option ℕ)) (hashes : List ℕ) (lists : List (List ℕ)) : Type 0 where
  pub as_many : length lists ≡ length hashes
  pub few : length hashes ≤ 2 ^ 32 - 1
  pub some : 0 < length firsts
  pub room : length hashes ≤ length firsts + length firsts
  pub lawful : AreLists lists
  pub firsts_are : All (λ first. IfSome first (λ slot. slot < count)) firsts
  pub stands : (slot : ℕ) → slot < count → has slot (chain_from lists (first_for firsts (slice_index hashes slot))) ≡ true

-- the chains of the slots below a number: a slot that was just made stands in none
abbrev pub IsChainedBelow : ℕ → Chains → Type 0
IsChainedBelow count c = AreChained count c.firsts.items c.hashes.items c.links

-- the chains of all slots
abbrev pub IsChained : Chains → Type 0
IsChained c = IsChainedBelow (length c.hashes.items) c

-- one more slot is not too many for the buckets
abbrev pub HasRoom : Chains → Type 0
HasRoom c = length c.hashes.items < length c.firsts.items + length c.firsts.items
