-- What one more tuple changes of what is known of its group. Own.
use Rattle.std.specs.Prelude.{◌≡◌, ℕ, zero, suc, ◌+◌, ◌<◌, Bool, true, false, cond, List, [], ◌∷◌, ℤ, pos, ◌+ℤ◌, int_lt, length, map, slice_index_or, All}
use Rattle.std.specs.Ordering.{is_gt}
use Rattle.pg_value.specs.declared.value.Value.{Value}
use Rattle.pg_value.specs.declared.value.Value.TheVariants.{Null, Int}
use Rattle.pg_value.specs.Kinds.{directed_order}
use Rattle.group_values.specs.declared.shape.Call.{Call}
use Rattle.group_values.specs.declared.shape.Call.TheVariants.{CountAll, Count, Min, Max}
use Rattle.group_values.specs.Groups.{is_known, same_keys}
use Rattle.group_values.specs.Shapes.{Summary}

-- the greatest whole number of int8
abbrev pub most : ℤ
most = pos 9223372036854775807

-- whether a count can rise within int8
abbrev pub can_rise : Value → Bool
can_rise (Int n) = int_lt n most
can_rise _ = true

-- a count and one more, where it can rise
abbrev pub risen : Value → Value
risen (Int n) = cond (int_lt n most) (Int (n +ℤ pos 1)) (Int n)
risen v = v

-- the one of two values that stands first, the former where they tie; NULL stands behind all others
abbrev pub first_of : Bool → Value → Value → Value
first_of descending v w = cond (is_gt (directed_order descending false v w)) w v

-- what a call gives with the value of one more tuple
abbrev pub with_one : Call → Value → Value → Value
with_one CountAll v w = risen v
with_one Count v w = cond (is_known w) (risen v) v
with_one Min v w = first_of false v w
with_one Max v w = first_of true v w

-- what a call gives of no tuple
abbrev pub blank : Call → Value
blank CountAll = Int (pos 0)
blank Count = Int (pos 0)
blank Min = Null
blank Max = Null

-- what calls give with one more tuple
abbrev pub with_args : List Call → List Value → List Value → List Value
with_args (c ∷ cs) (v ∷ vs) (w ∷ ws) = with_one c v w ∷ with_args cs vs ws
with_args _ _ _ = []

-- whether the number that a call gives can rise; what is no number of tuples always can
abbrev pub has_room : Call → Value → Bool
has_room CountAll v = can_rise v
has_room Count v = can_rise v
has_room Min v = true
has_room Max v = true

-- one more tuple takes no count of a group past int8
abbrev pub have_room : List Call → List Value → Bool
have_room (c ∷ cs) (v ∷ vs) = cond (has_room c v) (have_room cs vs) false
have_room _ _ = true

-- a group with one more tuple
abbrev pub joined : List Call → List Value → Summary → Summary
joined calls args g = record { keys = g.keys; called = with_args calls g.called args }

-- a group of one tuple
abbrev pub begun : List Call → List Value → List Value → Summary
begun calls keys args = record { keys = keys; called = with_args calls (map blank calls) args }

-- a group of which nothing is known, in place of one that is not there
abbrev pub none : Summary
none = record { keys = []; called = [] }

-- what is known of the group at a place of a list
abbrev pub group_at : List Summary → ℕ → Summary
group_at gs n = slice_index_or gs n none

-- each group has what each call gives
abbrev pub AreWhole : List Call → List Summary → Type 0
AreWhole calls gs = All (λ (g : Summary). length g.called ≡ length calls) gs

-- what is known before the first tuple: without GROUP BY columns there is one group
abbrev pub at_first : ℕ → List Call → List Summary
at_first zero calls = (record { keys = []; called = map blank calls }) ∷ []
at_first (suc w) calls = []

-- no group but the last has these keys
abbrev pub IsLastAlone : List Summary → List Value → Type 0
IsLastAlone gs keys = (n : ℕ) → n + 1 < length gs → same_keys (group_at gs n).keys keys ≡ false
