-- Forms of texts, character by character, and the numbers that their digits write (PostgreSQL manual, UUID Type; own).
use Rattle.std.specs.Prelude.{ℕ, ◌-◌, ◌*◌, ◌^◌, ◌&&◌, Bool, true, false, cond, nat_eq, List, [], ◌∷◌, codes, length, take, drop, ℤ, pos, neg_ℤ}
use Rattle.std.specs.Char.{is_ascii_digit, is_ascii_hexdigit}
use Rattle.std.specs.List.{list_any}
use Rattle.std.specs.Str.Parse.{digits_value}

-- a character is one that a form's character stands for: D for a decimal digit, H for a hexadecimal one, and any other for itself
abbrev pub stands_for : ℕ → ℕ → Bool
stands_for f c = cond (nat_eq f 68) (is_ascii_digit c) (cond (nat_eq f 72) (is_ascii_hexdigit c) (nat_eq f c))

-- a text has a form
unfoldable pub has_form : List ℕ → List ℕ → Bool
has_form [] [] = true
has_form (f ∷ fs) (c ∷ cs) = stands_for f c && has_form fs cs
has_form _ _ = false

-- a text has one of these forms
abbrev pub has_a_form : List (List ℕ) → List ℕ → Bool
has_a_form forms text = list_any (λ f. has_form f text) forms

-- the number that so many digits of a text write, from a place on; 0 where the text ends before
abbrev pub number_at : ℕ → ℕ → List ℕ → ℕ
number_at place count text = digits_value 10 (take count (drop place text))

-- the number that the digits behind a point write, counted in the last of so many places; further ones are left out
abbrev pub fraction : ℕ → List ℕ → ℕ
fraction places digits = digits_value 10 (take places digits) * 10 ^ (places - length (take places digits))

-- the whole number of a size, below 0 or not
abbrev pub signed : Bool → ℕ → ℤ
signed negative size = cond negative (neg_ℤ (pos size)) (pos size)

-- a text is a uuid
abbrev pub is_uuid_text : List ℕ → Bool
is_uuid_text = has_form (codes "HHHHHHHH-HHHH-HHHH-HHHH-HHHHHHHHHHHH")
