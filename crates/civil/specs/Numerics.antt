-- Numbers with a fixed number of digits behind the point, as whole numbers (PostgreSQL manual, Arbitrary Precision Numbers; own: no rounding, no exponent).
use Rattle.std.specs.Prelude.{ℕ, ◌+◌, ◌*◌, ◌^◌, ◌&&◌, Bool, true, cond, nat_eq, nat_le, nat_lt, List, [], ◌∷◌, length, take, drop, ℤ, pos, ◌*ℤ◌, unsigned_abs, Option, Some, None, Result}
use Rattle.std.specs.Char.{is_ascii_digit}
use Rattle.std.specs.List.{list_all, prefix_len}
use Rattle.std.specs.Str.Parse.{digits_value, starts_with_minus, without_leading_sign}
use Rattle.civil.specs.declared.unread.Unread.{Unread}
use Rattle.civil.specs.Forms.{fraction, signed}
use Rattle.civil.specs.Times.{formed, ranged}

-- one decimal digit or more, and nothing else
abbrev pub is_numeral : List ℕ → Bool
is_numeral ds = nat_lt 0 (length ds) && list_all is_ascii_digit ds

-- the digits that a text begins with
abbrev pub whole_part : List ℕ → List ℕ
whole_part text = take (prefix_len is_ascii_digit text) text

-- what stands behind the digits that a text begins with
abbrev pub behind_whole : List ℕ → List ℕ
behind_whole text = drop (prefix_len is_ascii_digit text) text

-- nothing, or a point and one digit or more
abbrev pub is_fraction : List ℕ → Bool
is_fraction [] = true
is_fraction (c ∷ ds) = nat_eq c 46 && is_numeral ds

-- the digits behind the point
abbrev pub fraction_digits : List ℕ → List ℕ
fraction_digits text = drop 1 (behind_whole text)

-- digits, and optionally a point and digits, without a sign
abbrev pub is_decimal : List ℕ → Bool
is_decimal text = is_numeral (whole_part text) && is_fraction (behind_whole text)

-- the digit 0
abbrev pub is_nought : ℕ → Bool
is_nought c = nat_eq c 48

-- the number times 10 to the scale
abbrev pub scaled : ℕ → List ℕ → ℕ
scaled scale text = digits_value 10 (whole_part text) * 10 ^ scale + fraction scale (fraction_digits text)

-- a type has so many digits, so many of them behind the point
abbrev pub is_size : ℕ → ℕ → Bool
is_size digits scale = (nat_le 1 digits && nat_le digits 18) && nat_le scale digits

-- a whole number is one of the type, times 10 to the scale; where no type has these digits there is none
abbrev pub is_numeric_number : ℕ → ℕ → ℤ → Bool
is_numeric_number digits scale n = is_size digits scale && nat_lt (unsigned_abs n) (10 ^ digits)

-- the number of a text is one of the type: what stands behind the digits of the scale is 0, and there are at most so many digits
abbrev pub is_in : ℕ → ℕ → List ℕ → Bool
is_in digits scale text = is_size digits scale && (list_all is_nought (drop scale (fraction_digits text)) && nat_lt (scaled scale text) (10 ^ digits))

-- the numeric that a text spells
abbrev pub numeric_value : ℕ → ℕ → List ℕ → Result ℤ Unread
numeric_value digits scale text =
    formed (is_decimal (without_leading_sign text))
    (ranged (is_in digits scale (without_leading_sign text)) (signed (starts_with_minus text) (scaled scale (without_leading_sign text))))

-- a whole number as one of the type, or none where the type does not have it
abbrev pub whole_numeric_of : ℕ → ℕ → ℤ → Option ℤ
whole_numeric_of digits scale n = cond (is_numeric_number digits scale (n *ℤ pos (10 ^ scale))) (Some (n *ℤ pos (10 ^ scale))) None
