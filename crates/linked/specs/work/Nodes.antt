-- Slots that name their neighbours, and the lists that they stand for. Own.
use Rattle.std.specs.Prelude.{◌≡◌, ℕ, zero, suc, ◌<◌, Bool, true, false, ◌==◌, List, [], ◌∷◌, ◌++◌, length, slice_index_or, Option, None, Some}
use Rattle.linked.specs.declared.nodes.Node.{Node}
use Rattle.linked.specs.work.Lists.{has, AreApart, first}

-- a slot without neighbours, which is a list by itself
abbrev pub lone : Node
lone = record { prev = None; next = None }

-- the neighbour behind that a slot names, none at the end
abbrev pub next_at : List Node → ℕ → Option ℕ
next_at ns slot = (slice_index_or ns slot lone).next

-- the neighbour before that a slot names, none at the front
abbrev pub prev_at : List Node → ℕ → Option ℕ
prev_at ns slot = (slice_index_or ns slot lone).prev

-- whether a slot is named
abbrev pub is_at : Option ℕ → ℕ → Bool
is_at None slot = false
is_at (Some x) slot = slot == x

-- the slots from one on, as far as `steps` go
abbrev pub ahead : ℕ → List Node → Option ℕ → List ℕ
ahead zero ns from = []
ahead (suc steps) ns None = []
ahead (suc steps) ns (Some slot) = slot ∷ ahead steps ns (next_at ns slot)

-- the slots up to one, as far as `steps` go, before others
abbrev pub back : ℕ → List Node → Option ℕ → List ℕ → List ℕ
back zero ns from others = others
back (suc steps) ns None others = others
back (suc steps) ns (Some slot) others = back steps ns (prev_at ns slot) (slot ∷ others)

-- the list in which a slot stands
abbrev pub list_at : List Node → ℕ → List ℕ
list_at ns slot = back (length ns) ns (prev_at ns slot) (slot ∷ ahead (length ns) ns (next_at ns slot))

-- the lists of the slots below a number, in the order of these
abbrev pub lists_below : List Node → ℕ → List (List ℕ)
lists_below ns zero = []
lists_below ns (suc n) = lists_below ns n ++ list_at ns n ∷ []

-- at the place of each slot the list in which it stands
abbrev pub lists_of : List Node → List (List ℕ)
lists_of ns = lists_below ns (length ns)

-- each slot of a list names its neighbours, where `before` stands before the list
abbrev pub Run : List Node → Option ℕ → List ℕ → Type 0
Run ns before [] = Unit {0}
Run ns before (x ∷ xs) = (x < length ns) × (prev_at ns x ≡ before) × (next_at ns x ≡ first xs) × Run ns (Some x) xs

-- a slot stands in a list that runs from front to end
pub record Stands (ns : List Node) (slot : ℕ) : Type 0 where
  pub list : List ℕ
  pub run : Run ns None list
  pub apart : AreApart list
  pub has_slot : has slot list ≡ true

-- neighbours name each other: each slot stands in one list that can be walked either way
pub record AreLinked (ns : List Node) : Type 0 where
  pub each : (slot : ℕ) → slot < length ns → Stands ns slot
