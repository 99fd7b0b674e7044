-- White space and comments (PostgreSQL manual, chapter Lexical Structure).
use Rattle.std.specs.Prelude.{◌≡◌, ℕ, Bool, true, false, ◌||◌, nat_eq, List, [], ◌∷◌, ◌++◌}
use Rattle.std.specs.List.{starts_with, list_all}
use Rattle.sql_lex.specs.Letters.{is_space, is_in_line, IsNotNext}

-- `/*` or `*/` stands at the front
abbrev pub begins_mark : List ℕ → Bool
begins_mark text = starts_with nat_eq text (47 ∷ 42 ∷ []) || starts_with nat_eq text (42 ∷ 47 ∷ [])

-- the rest of a comment after its `/*`, up to and with its own `*/`: single bytes, and comments within
pub data ClosesComment : List ℕ → Type 0 where
  close : ClosesComment (42 ∷ 47 ∷ [])
  byte : (b : ℕ) (bs : List ℕ) → begins_mark (b ∷ bs) ≡ false → ClosesComment bs → ClosesComment (b ∷ bs)
  nested : (inner bs : List ℕ) → ClosesComment inner → ClosesComment bs → ClosesComment (47 ∷ 42 ∷ (inner ++ bs))

-- one byte of white space, a `--` comment up to the line's or the text's end, or a `/*` comment; and the text after it
pub data IsBlank : List ℕ → List ℕ → Type 0 where
  space : (b : ℕ) (rest : List ℕ) → is_space b ≡ true → IsBlank (b ∷ []) rest
  line : (bs rest : List ℕ) → list_all is_in_line bs ≡ true → IsNotNext is_in_line rest → IsBlank (45 ∷ 45 ∷ bs) rest
  comment : (bs rest : List ℕ) → ClosesComment bs → IsBlank (47 ∷ 42 ∷ bs) rest

-- a text, and what is left of it after some white space and comments at its front
pub data PassesBlanks : List ℕ → List ℕ → Type 0 where
  none : (text : List ℕ) → PassesBlanks text text
  more : (blank after rest : List ℕ) → IsBlank blank after → PassesBlanks after rest → PassesBlanks (blank ++ after) rest

-- no white space or comment stands at the front
abbrev pub HasNoBlank : List ℕ → Type 0
HasNoBlank text = (blank rest : List ℕ) → text ≡ blank ++ rest → ¬ IsBlank blank rest
