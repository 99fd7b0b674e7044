-- How long what stands at the front of a text is.
use Rattle.std.specs.Prelude.{◌≡◌, ◌<◌, ◌≤◌, ℕ, List, ◌++◌, length, take, drop, max, nat_eq, if◌then◌else◌, [], ◌∷◌, Contains}
use Rattle.std.specs.List.{starts_with}
use Rattle.sql_lex.specs.declared.tokens.Kind.{Kind}
use Rattle.sql_lex.specs.Blanks.{ClosesComment, IsBlank}
use Rattle.sql_lex.specs.Forms.{IsToken, IsLongest, symbols}

-- the first n bytes close a comment
pub record CutsComment (text : List ℕ) (n : ℕ) : Type 0 where
  pub within : n ≤ length text
  pub closes : ClosesComment (take n text)

-- no front of the text closes a comment
abbrev pub IsNotClosed : List ℕ → Type 0
IsNotClosed text = (bytes rest : List ℕ) → text ≡ bytes ++ rest → ¬ ClosesComment bytes

-- the first n bytes are white space or a comment
pub record CutsBlank (text : List ℕ) (n : ℕ) : Type 0 where
  pub some : 0 < n
  pub within : n ≤ length text
  pub blank : IsBlank (take n text) (drop n text)

-- the first n bytes are a token of this kind
pub record CutsToken (text : List ℕ) (kind : Kind) (n : ℕ) : Type 0 where
  pub within : n ≤ length text
  pub form : IsToken kind (take n text) (drop n text)

-- no symbol stands at the front
abbrev pub HasNoSymbol : List ℕ → Type 0
HasNoSymbol text = (symbol rest : List ℕ) → text ≡ symbol ++ rest → ¬ Contains symbols symbol

-- the first n bytes are the longest symbol that stands at the front
pub record IsLongestAt (text : List ℕ) (n : ℕ) : Type 0 where
  pub within : n ≤ length text
  pub one : Contains symbols (take n text)
  pub longest : IsLongest (take n text) (drop n text)

-- the length of the longest of some texts that stands at the front, or 0
abbrev pub longest_of : List (List ℕ) → List ℕ → ℕ
longest_of [] text = 0
longest_of (s ∷ ss) text = if starts_with nat_eq text s then max (length s) (longest_of ss text) else longest_of ss text
