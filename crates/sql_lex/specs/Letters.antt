-- The bytes of white space, words and numbers (PostgreSQL manual, chapter Lexical Structure, ASCII alone).
use Rattle.std.specs.Prelude.{◌≡◌, ℕ, Bool, false, not, ◌||◌, ◌==◌, List, [], ◌∷◌}
use Rattle.std.specs.Char.{is_ascii_digit, is_ascii_alphabetic, is_ascii_alphanumeric}

-- space, tab, LF, FF or CR
abbrev pub is_space : ℕ → Bool
is_space b = b == 32 || b == 9 || b == 10 || b == 12 || b == 13

-- a letter or `_`
abbrev pub begins_word : ℕ → Bool
begins_word b = is_ascii_alphabetic b || b == 95

-- a letter, a digit, `_` or `$`
abbrev pub is_in_word : ℕ → Bool
is_in_word b = is_ascii_alphanumeric b || b == 95 || b == 36

-- a further digit, or what may not follow a number at once: a letter or `_`
abbrev pub goes_on_number : ℕ → Bool
goes_on_number b = is_ascii_digit b || begins_word b

-- a byte of a line: any but LF
abbrev pub is_in_line : ℕ → Bool
is_in_line b = not (b == 10)

-- the quote mark
abbrev pub is_quote : ℕ → Bool
is_quote b = b == 39

-- a text is at its end, or its first byte fails the test
abbrev pub IsNotNext : (ℕ → Bool) → List ℕ → Type 0
IsNotNext test [] = Unit {0}
IsNotNext test (b ∷ bs) = test b ≡ false
