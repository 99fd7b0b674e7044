-- What a cursor has left, from leaf to leaf in its direction. Own.
use Rattle.std.specs.Prelude.{ℕ, Bool, cond, ◌==◌, List, [], ◌∷◌, ◌++◌, reverse, take, drop, slice_index_or}
use Rattle.linked.specs.work.Lists.{behind}
use Rattle.btree_index.specs.work.Pages.{slots_of}
use Rattle.btree_index.specs.declared.pages.Pages.{Pages}
use Rattle.btree_index.specs.declared.places.Place.{Place}
use Rattle.opfamily.specs.KeyOrder.{IndexEntry}

-- a list as it stands, or from its end
abbrev pub turned : {A : Type 0} → Bool → List A → List A
turned backward l = cond backward (reverse l) l

-- what a leaf has up to a place, in a direction
abbrev pub up_to : {A : Type 0} → Bool → ℕ → List A → List A
up_to backward at l = cond backward (drop at l) (take at l)

-- the slots ahead of one
abbrev pub ahead : Bool → ℕ → List ℕ → List ℕ
ahead backward slot slots = behind slot (turned backward slots)

-- what the leaves of slots have up to a place on the last of them
abbrev pub until : {A : Type 0} → Bool → List (List A) → ℕ → ℕ → List ℕ → List A
until backward leaves last at [] = []
until backward leaves last at (slot ∷ slots) = cond (slot == last)
    (turned backward (up_to backward at (slice_index_or leaves slot [])))
    (turned backward (slice_index_or leaves slot []) ++ until backward leaves last at slots)

-- what is left of a leaf, and on the leaves ahead of it
abbrev pub left_on : Bool → List IndexEntry → ℕ → ℕ → ℕ → List (List IndexEntry) → List ℕ → List IndexEntry
left_on backward here slot last at leaves slots = turned backward here ++ cond (slot == last) [] (until backward leaves last at (ahead backward slot slots))

-- the entries that a cursor has still to give, in its direction: of the leaf at hand and of those ahead of it, up to
-- where its part ends
abbrev pub left : Bool → List IndexEntry → ℕ → Place → Pages → List IndexEntry
left backward here slot last p = left_on backward here slot last.slot last.at p.leaves.items (slots_of p.links)
