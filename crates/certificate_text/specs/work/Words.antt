-- Where a word ends, and how numbers are written. Own.
use Rattle.std.specs.Prelude.{◌≡◌, ◌<◌, ◌++◌, ℕ, suc, Bool, true, not, cond, ◌&&◌, ◌==◌, ◌-◌, ◌^◌, min, nat_lt, List, [], ◌∷◌, length, get_or, Option, None, Some, option_and_then}
use Rattle.std.specs.Fmt.{decimal}
use Rattle.std.specs.List.{list_all}
use Rattle.std.specs.Str.Parse.{digits_value}
use Rattle.pg_value.specs.Fields.{is_numeral}
use Rattle.pg_base.specs.Names.{is_in_name}

-- a text begins with no byte of a name
abbrev pub stops : List ℕ → Bool
stops [] = true
stops (b ∷ bs) = not (is_in_name b)

-- how many bytes of names a text begins with
abbrev pub word_end : List ℕ → ℕ
word_end [] = 0
word_end (b ∷ bs) = cond (is_in_name b) (suc (word_end bs)) 0

-- digits begin with a zero that is not the only one
abbrev pub has_leading_zero : List ℕ → Bool
has_leading_zero ds = nat_lt 1 (length ds) && (get_or ds 0 0 == 48)

-- a number below 10^19
abbrev pub below_end : ℕ → Option ℕ
below_end n = cond (nat_lt n (10 ^ 19)) (Some n) None

-- the number that a text writes, where it is written without a leading zero and is below 10^19
abbrev pub number_written : List ℕ → Option ℕ
number_written ds = cond (has_leading_zero ds) None (option_and_then below_end (cond (is_numeral ds) (Some (min (digits_value 10 ds) (2 ^ 64 - 1))) None))

-- where these bytes come next, they are passed over, and the answer is yes
abbrev pub PassesOver : List ℕ → List ℕ → List ℕ → Bool → Type 0
PassesOver bytes old new result = (rest : List ℕ) → old ≡ bytes ++ rest → (result ≡ true) × (new ≡ rest)

-- each run of bytes of names that comes next, and that none goes on, is the one found
abbrev pub IsNextWord : List ℕ → List ℕ → List ℕ → Type 0
IsNextWord old new word =
    (w : List ℕ) (rest : List ℕ) → old ≡ w ++ rest → list_all is_in_name w ≡ true → stops rest ≡ true → (word ≡ w) × (new ≡ rest)

-- each number below 10^19 that comes next, and that no byte of a name goes on, is the one found
abbrev pub IsNextNumber : List ℕ → List ℕ → Option ℕ → Type 0
IsNextNumber old new number =
    (n : ℕ) (rest : List ℕ) → n < 10 ^ 19 → old ≡ decimal n ++ rest → stops rest ≡ true → (number ≡ Some n) × (new ≡ rest)
