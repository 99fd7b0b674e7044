-- Why no token stands at the front of a text (PostgreSQL manual, chapter Lexical Structure).
use Rattle.std.specs.Prelude.{◌≡◌, ◌≢◌, ◌<◌, ◌⊎◌, ℕ, true, false, List, ◌∷◌, ◌++◌, length, slice_index}
use Rattle.std.specs.Char.{is_ascii_digit}
use Rattle.sql_lex.specs.Letters.{begins_word, is_quote, IsNotNext}
use Rattle.sql_lex.specs.Forms.{IsNumber, quoted}
use Rattle.sql_lex.specs.work.Cuts.{HasNoSymbol}

-- the first byte begins no word, number or quoted text, and no symbol stands there
pub record IsNoBeginning (text : List ℕ) : Type 0 where
  pub some : 0 < length text
  pub no_word : begins_word (slice_index text 0) ≡ false
  pub no_digit : is_ascii_digit (slice_index text 0) ≡ false
  pub no_quote : slice_index text 0 ≢ 39
  pub no_symbol : HasNoSymbol text

-- the first byte is a quote mark, and the quoted text is not closed
pub record IsOpenQuote (text : List ℕ) : Type 0 where
  pub mark : slice_index text 0 ≡ 39
  pub unclosed : (value rest : List ℕ) → text ≡ quoted value ++ rest → ¬ IsNotNext is_quote rest

-- a number that a letter or `_` follows at once
pub record IsSpoiltNumber (text : List ℕ) : Type 0 where
  pub digits : List ℕ
  pub letter : ℕ
  pub rest : List ℕ
  pub cut : text ≡ digits ++ letter ∷ rest
  pub number : IsNumber digits
  pub next : begins_word letter ≡ true

-- one of the three
abbrev pub IsNoTokenHere : List ℕ → Type 0
IsNoTokenHere text = IsNoBeginning text ⊎ (IsOpenQuote text ⊎ IsSpoiltNumber text)
