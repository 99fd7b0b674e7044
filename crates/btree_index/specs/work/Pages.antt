-- Entries on leaves that stand in one list of slots. Own.
use Rattle.std.specs.Prelude.{◌≡◌, ℕ, ◌+◌, ◌<◌, ◌≤◌, true, List, [], ◌∷◌, ◌++◌, length, slice_index_or, slice_set, take, drop, Some, ◌⊎◌}
use Rattle.opfamily.specs.KeyOrder.{IndexEntry}
use Rattle.linked.specs.work.Lists.{has, AreLists, list_of, first, before, behind}
use Rattle.btree_index.specs.declared.pages.Pages.{Pages}
use Rattle.btree_index.specs.declared.places.Place.{Place}

-- what stands on the leaves of a list of slots, one leaf after the other
abbrev pub joined : {A : Type 0} → List (List A) → List ℕ → List A
joined leaves [] = []
joined leaves (slot ∷ slots) = slice_index_or leaves slot [] ++ joined leaves slots

-- the slots of the leaves, in their order
abbrev pub slots_of : List (List ℕ) → List ℕ
slots_of lists = list_of lists 0

-- the leaves all stand in one list, and leaf 0 is the first
pub record ArePaged (leaves : ℕ) (lists : List (List ℕ)) : Type 0 where
  pub some : 0 < leaves
  pub as_many : length lists ≡ leaves
  pub lawful : AreLists lists
  pub zero_first : first (slots_of lists) ≡ Some 0
  pub one : (slot : ℕ) → slot < leaves → has slot (slots_of lists) ≡ true

-- the entries on all leaves, in the order of the list that leaf 0 begins
abbrev pub entries_on : List (List IndexEntry) → List (List ℕ) → List IndexEntry
entries_on leaves lists = joined leaves (slots_of lists)

-- the entries of an index, in the order of its keys
abbrev pub entries_of : Pages → List IndexEntry
entries_of p = entries_on p.leaves.items p.links

-- all leaves of an index stand in one list, so that a cursor comes to each of them from leaf 0
abbrev pub IsPaged : Pages → Type 0
IsPaged p = ArePaged (length p.leaves.items) p.links

-- how many entries stand before a place
abbrev pub rank_on : List (List IndexEntry) → List (List ℕ) → ℕ → ℕ → ℕ
rank_on leaves lists slot at = length (joined leaves (before slot (slots_of lists))) + at

-- how many entries of an index stand before a place, over all leaves: the entry at the place has this number, from 0
abbrev pub rank : Pages → Place → ℕ
rank p place = rank_on p.leaves.items p.links place.slot place.at

-- a place on a leaf that there is
pub record IsPlace (p : Pages) (place : Place) : Type 0 where
  pub slot : place.slot < length p.leaves.items
  pub at : place.at ≤ length (slice_index_or p.leaves.items place.slot [])

-- the leaves once the entries of one from a place on stand on a new leaf
abbrev pub cut_leaves : List (List IndexEntry) → ℕ → ℕ → List (List IndexEntry)
cut_leaves leaves slot at = slice_set leaves slot (take at (slice_index_or leaves slot [])) ++ drop at (slice_index_or leaves slot []) ∷ []

-- the entries of the leaf at a slot
abbrev pub leaf_at : Pages → ℕ → List IndexEntry
leaf_at p slot = slice_index_or p.leaves.items slot []

-- a place has an entry at it, or is the end of the last leaf
abbrev pub IsAtEntry : Pages → Place → Type 0
IsAtEntry p place = (place.at < length (leaf_at p place.slot)) ⊎ (behind place.slot (slots_of p.links) ≡ [])
