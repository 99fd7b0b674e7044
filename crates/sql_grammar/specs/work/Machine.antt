-- The walk: a stack of items, the next one first, and a token after a token (own).
use Rattle.std.specs.Prelude.{ℕ, ◌+◌, ◌*◌, ◌≤◌, Bool, true, false, ◌&&◌, nat_le, List, [], ◌∷◌, ◌++◌, length, Option, Some, None, cond}
use Rattle.sql_grammar.specs.declared.class.Class.{Class}
use Rattle.sql_grammar.specs.Terminals.{Terminal}
use Rattle.sql_grammar.specs.work.Terminals.{class_of}
use Rattle.sql_grammar.specs.declared.table.Item.{Item}
use Rattle.sql_grammar.specs.declared.table.Item.TheVariants.{Closes, NotEnds}
use Rattle.sql_grammar.specs.work.Table.{Expansion, takes_of, is_optional, takes_end, level_of, room_of}

-- the levels of an expression that are open
abbrev pub depth_of : List Item → ℕ
depth_of [] = 0
depth_of (i ∷ s) = level_of i + depth_of s

-- a level opens with some items
abbrev pub opens : List Item → Bool
opens [] = false
opens (NotEnds ∷ s) = true
opens (Closes ∷ s) = true
opens (i ∷ s) = opens s

-- a stack with some items on top, within the limit of levels
abbrev pub pushed : ℕ → List Item → List Item → Option (List Item)
pushed limit is s = cond (opens is) (cond (nat_le (depth_of (is ++ s)) limit) (Some (is ++ s)) None) (Some (is ++ s))

-- after a row: its items, or what stands below where nothing need come
abbrev pub by_row : ℕ → Expansion → Bool → List Item → Option (List Item) → Option (List Item)
by_row limit (Some is) _ s below = pushed limit is s
by_row limit None true s below = below
by_row limit None false s below = None

-- the stack after a token
abbrev pub step_of : ℕ → Class → List Item → Option (List Item)
step_of limit t [] = None
step_of limit t (i ∷ s) = by_row limit (takes_of i t) (is_optional i) s (step_of limit t s)

-- the next of two steps
abbrev pub and_then : Option (List Item) → (List Item → Option (List Item)) → Option (List Item)
and_then None f = None
and_then (Some s) f = f s

-- the stack after some tokens
abbrev pub run_of : ℕ → List Terminal → List Item → Option (List Item)
run_of limit [] s = Some s
run_of limit (t ∷ ts) s = and_then (step_of limit (class_of t) s) (run_of limit ts)

-- after a stack nothing need come
abbrev pub may_end : List Item → Bool
may_end [] = true
may_end (i ∷ s) = is_optional i && may_end s

-- a step and what follows
abbrev pub takes_then : Option (List Item) → (List Item → Bool) → Bool
takes_then None f = false
takes_then (Some s) f = f s

-- some tokens are taken from a stack, and then nothing need come
abbrev pub takes_all : ℕ → List Terminal → List Item → Bool
takes_all limit [] s = may_end s
takes_all limit (t ∷ ts) s = takes_then (step_of limit (class_of t) s) (takes_all limit ts)

-- there is room for the stack and what comes of it
abbrev pub Fits : ℕ → List Item → Type 0
Fits base [] = Unit {0}
Fits base (i ∷ s) = (room_of i + length s ≤ base + 3 * depth_of s) × Fits base s

-- nothing is left on a stack
abbrev pub is_empty : List Item → Bool
is_empty [] = true
is_empty (_ ∷ _) = false

-- an item that takes a statement's end is the last one; whether none may stand, and whether such a one may
abbrev pub is_closed : Bool → Bool → List Item → Bool
is_closed none last [] = none
is_closed none last (i ∷ s) = cond (takes_end i) (last && is_empty s) (is_closed none last s)
