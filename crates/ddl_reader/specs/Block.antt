-- The lines of a data block (PostgreSQL manual, COPY, CSV Format).
use Rattle.std.specs.Prelude.{◌≡◌, ℕ, ◌+◌, Bool, false, true, ◌||◌, nat_eq, cond, List, [], ◌∷◌, ◌++◌, codes, length, drop, All}
use Rattle.std.specs.Str.{bytes_eq}

-- a byte before the first of some lines
abbrev pub in_front : ℕ → List (List ℕ) → List (List ℕ)
in_front b [] = (b ∷ []) ∷ []
in_front b (line ∷ lines) = (b ∷ line) ∷ lines

-- the lines of a text, each with the LF that ends it; the last may have none
abbrev pub lines_of : List ℕ → List (List ℕ)
lines_of [] = []
lines_of (b ∷ bs) = cond (nat_eq b 10) ((b ∷ []) ∷ lines_of bs) (in_front b (lines_of bs))

-- a line is exactly `\.`, not counting its LF nor a CR before that LF
abbrev pub is_mark : List ℕ → Bool
is_mark line = bytes_eq line (codes "\\.\n") || bytes_eq line (codes "\\.\r\n") || bytes_eq line (codes "\\.")

-- none of these lines is `\.`
abbrev pub HaveNoMark : List (List ℕ) → Type 0
HaveNoMark lines = All (λ line. is_mark line ≡ false) lines

-- the number of bytes of some lines
abbrev pub size_of : List (List ℕ) → ℕ
size_of [] = 0
size_of (line ∷ lines) = length line + size_of lines

-- the data from `start` end at `end`, where the first line `\.` begins, and `next` is the offset after it
pub record IsBlockEnd (text : List ℕ) (start end next : ℕ) : Type 0 where
  pub before : List (List ℕ)
  pub mark : List ℕ
  pub after : List (List ℕ)
  pub lines : lines_of (drop start text) ≡ before ++ mark ∷ after
  pub first : HaveNoMark before
  pub is : is_mark mark ≡ true
  pub end_is : end ≡ start + size_of before
  pub next_is : next ≡ end + length mark
