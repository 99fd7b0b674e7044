-- Numbered conditions as a list with a place for each number, where those that are left out have none. Own.
use Rattle.std.specs.Prelude.{◌≡◌, ℕ, ◌+◌, Bool, false, cond, ◌&&◌, ◌||◌, nat_eq, nat_lt, List, [], ◌∷◌, length, map, find, filter_map, slice_index_or, Option, Some, None, not}
use Rattle.std.specs.List.{cons_option, position_from, range_with_len}
use Rattle.std.specs.Option.{option_map}
use Rattle.pg_expr.specs.work.AtomSets.{contains}
use Rattle.pg_expr.specs.Cond.{Cond}
use Rattle.pg_expr.specs.work.View as view
use Rattle.catalog.specs.opfamily_classes_IndexKey.{IndexKey}
use Rattle.catalog.specs.opfamily_classes_Method.{Method}
use Rattle.catalog.specs.Indexes.{Index}
use Rattle.eq_classes.specs.Clauses.{Clause, Set, ClassTable}
use Rattle.eq_classes.specs.Listing.{clause_at}
use Rattle.eq_classes.specs.work.Listing.{selects}
use Rattle.eq_classes.specs.Parts.{is_local}
use Rattle.index_match.specs.declared.slots.Conditions.{Conditions}
use Rattle.index_match.specs.declared.slots.Conditions.TheVariants.{Clauses, Parts}
use Rattle.index_match.specs.declared.slots.Chosen.{Chosen}
use Rattle.index_match.specs.Numbered.{Numbered, local}
use Rattle.index_match.specs.Conditions.{has_key_form, is_condition, conditions_among}
use Rattle.index_match.specs.Bounds.{is_fixing}
use Rattle.pg_base.specs.Sets.{has}
use Rattle.pg_base.specs.declared.numbers.RelNo.{RelNo}
use Rattle.pg_base.specs.declared.rel_set.RelSet.{RelSet}
use Rattle.catalog.specs.work.Entries.{index_of}
use Rattle.catalog.specs.declared.index_def.IndexDef.{IndexDef}

-- the clauses of a set of numbers; the first clause of the list has the number given
abbrev pub chosen_from : ℕ → (ℕ → Bool) → List Clause → List (Option Cond)
chosen_from n chosen [] = []
chosen_from n chosen (k ∷ ks) = cond (chosen n) (Some k.cond) None ∷ chosen_from (n + 1) chosen ks

-- the places of the clauses of a set
abbrev pub chosen_by : List ℕ → ClassTable → List (Option Cond)
chosen_by set t = chosen_from 0 (contains set) t.clauses

-- the places of these conditions
abbrev pub chosen_slots : Chosen → List (Option Cond)
chosen_slots c = chosen_by c.set.now c.classes.now

-- the places of conditions: one for each clause of the query, of which some are chosen, or one for each part of an arm
abbrev pub slots_of : Conditions → List (Option Cond)
slots_of (Clauses c) = chosen_slots c
slots_of (Parts es) = map (λ e. Some (view.cond e)) es.now

-- the conditions that have a place, and these with their numbers
abbrev pub placed : List (Option Cond) → List Cond
placed slots = filter_map (λ slot. slot) slots

-- a condition with the number of its place
abbrev pub numbered_at : ℕ → Cond → Numbered
numbered_at n e = record { number = n; cond = e }

-- the conditions that have a place, each with its number; the first place of the list has the number given
abbrev pub numbered_from : ℕ → List (Option Cond) → List Numbered
numbered_from n [] = []
numbered_from n (slot ∷ slots) = cons_option (option_map (numbered_at n) slot) (numbered_from (n + 1) slots)

-- the condition at a place, if it has one
abbrev pub slot_at : List (Option Cond) → ℕ → Option Cond
slot_at slots n = slice_index_or slots n None

-- the clauses of a set with their numbers
abbrev pub numbered_by : List ℕ → ClassTable → List Numbered
numbered_by set t = numbered_from 0 (chosen_by set t)

-- a place has a condition that passes a test
abbrev pub passes : (Cond → Bool) → Option Cond → Bool
passes test None = false
passes test (Some e) = test e

-- the condition at a place is on a key column
abbrev pub is_on_key : Method → ℕ → IndexKey → Option Cond → Bool
is_on_key m r k = passes (has_key_form m r k)

-- a number is that of a place with a condition on a key column
abbrev pub is_key_slot : Method → RelNo → IndexKey → Conditions → ℕ → Bool
is_key_slot m r k list j = nat_lt j (length (slots_of list)) && is_on_key m r.0 k (slot_at (slots_of list) j)

-- the condition at a place is on a key column and leaves it one value
abbrev pub is_fixing_on : Method → ℕ → IndexKey → Option Cond → Bool
is_fixing_on m r k = passes (λ e. has_key_form m r k e && is_fixing e)

-- a set has the numbers of the clauses over a relation and its parameterisation, and no others
abbrev pub AreLocal : ClassTable → ℕ → Set → (ℕ → Bool) → Type 0
AreLocal t r p chosen = (n : ℕ) → chosen n ≡ nat_lt n (length t.clauses) && is_local r p (clause_at t.clauses n)

-- a clause that an index uses inside itself, in a scan of a relation with this parameterisation
abbrev pub is_found : Index → ℕ → Set → Clause → Bool
is_found d r p k = is_local r p k && is_condition d r k.cond

-- a number is that of a clause that an index uses inside itself, in a scan of a relation with this parameterisation
abbrev pub is_found_at : IndexDef → RelNo → RelSet → ClassTable → ℕ → Bool
is_found_at d r p t = selects (is_found (index_of d) r.0 (has p.0)) t

-- the conditions that an index has in a scan of a relation with this parameterisation
abbrev pub conditions_for : IndexDef → RelNo → RelSet → ClassTable → List Numbered
conditions_for d r p t = conditions_among (index_of d) r.0 (local t r.0 (has p.0))

-- a number below an end is in the one set and not in the other
abbrev pub is_left_over : List ℕ → List ℕ → ℕ → ℕ → Bool
is_left_over set other end j = nat_lt j end && (contains set j && not (contains other j))

-- a number was found
abbrev pub is_number : ℕ → Option ℕ → Bool
is_number n None = false
is_number n (Some m) = nat_eq n m

-- a number is that of a bound: by the places of the conditions, from the left over the key columns
abbrev pub bound_at : Method → ℕ → List IndexKey → List (Option Cond) → ℕ → Bool
bound_at m r [] slots j = false
bound_at m r (k ∷ ks) slots j =
    elim (position_from (is_fixing_on m r k) 0 slots) [
      | None ↦ nat_lt j (length slots) && is_on_key m r k (slice_index_or slots j None)
      | Some n ↦ nat_eq j n || bound_at m r ks slots j
    ]

-- a number is that of a bound of an index, by the places of the conditions
abbrev pub is_bound : IndexDef → ℕ → List (Option Cond) → ℕ → Bool
is_bound d r slots j = bound_at d.method r d.keys.items slots j

-- the least number of a set below an end
abbrev pub least : (ℕ → Bool) → ℕ → Option ℕ
least chosen end = find chosen (range_with_len 0 end)
