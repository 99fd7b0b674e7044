-- Working words beside those of `Parts`.
use Rattle.std.specs.Prelude.{ℕ, Bool, false, cond, ◌&&◌, nat_eq, List, [], ◌∷◌, map, slice_get, Option, Some, None, ◌≡◌, drop}
use Rattle.std.specs.List.{cons_option}
use Rattle.opfamily.specs.pg_base_numbers_RelNo.{RelNo}
use Rattle.eq_classes.specs.Classes.{Class}
use Rattle.eq_classes.specs.Clauses.{Set, Clause}
use Rattle.eq_classes.specs.declared.classes.ClassNo.{ClassNo}
use Rattle.eq_classes.specs.work.Listing.{class_no}
use Rattle.eq_classes.specs.Parts.{has_in, is_left_out, joining_from}

-- a class has members in both of two sets
abbrev pub spans : Class → Set → Set → Bool
spans c a b = has_in c a && has_in c b

-- whether a relation that was found, if one was, has the number
abbrev pub is_number : Option RelNo → ℕ → Bool
is_number None r = false
is_number (Some k) r = nat_eq k.0 r

-- a clause that a join with a scan of r leaves out, since the scan tests it or its class
abbrev pub is_spared : ℕ → Set → Clause → Bool
is_spared r p k = is_left_out r p k.cond k.source

-- the first four of a list of numbers
abbrev pub first_four : List ℕ → List (Option ℕ)
first_four ns = map (slice_get ns) (0 ∷ 1 ∷ 2 ∷ 3 ∷ [])

-- the first four joining classes of two sets, by number
abbrev pub first_joining : Set → Set → List Class → List (Option ℕ)
first_joining a b cs = first_four (joining_from a b 0 cs)

-- the joining classes from a number on are the one that was found, if one was, and those from the number beside it on
abbrev pub GivesNextJoining : Set → Set → List Class → ℕ → Option ClassNo × ℕ → Type 0
GivesNextJoining a b cs from found =
    joining_from a b from (drop from cs) ≡ cons_option (class_no found.0) (joining_from a b found.1 (drop found.1 cs))
