-- The words of a statement and their first fault (PostgreSQL manual, chapter Lexical Structure).
use Rattle.std.specs.Prelude.{◌≡◌, ◌≤◌, ℕ, Bool, true, false, ◌==◌, MatchBool, List, [], ◌∷◌, length, drop, slice_index, slice_range}
use Rattle.sql_lex.specs.declared.tokens.Kind.TheVariants.{Symbol, End}
use Rattle.sql_lex.specs.declared.tokens.Kind.{Kind}
use Rattle.sql_lex.specs.declared.tokens.Token.{Token}
use Rattle.sql_lex.specs.Blanks.{PassesBlanks, HasNoBlank}
use Rattle.sql_lex.specs.Forms.{IsToken, HasNoToken}

-- all white space and comments from one place on end at another
pub record EndsBlanks (text : List ℕ) (from at : ℕ) : Type 0 where
  pub order : from ≤ at
  pub within : at ≤ length text
  pub passes : PassesBlanks (drop from text) (drop at text)
  pub all : HasNoBlank (drop at text)

-- the token is the next one from a place on
pub record IsNext (text : List ℕ) (from : ℕ) (t : Token) : Type 0 where
  pub gap : EndsBlanks text from t.start
  pub order : t.start ≤ t.end
  pub within : t.end ≤ length text
  pub form : IsToken t.kind (slice_range text t.start t.end) (drop t.end text)

-- no token is next from a place on: after white space and comments none stands at `at`
pub record IsStuck (text : List ℕ) (from at : ℕ) : Type 0 where
  pub gap : EndsBlanks text from at
  pub stuck : HasNoToken (drop at text)

-- whether a kind of token, by whether its first byte is `;`, ends a statement
abbrev pub ends_with : Kind → Bool → Bool
ends_with Symbol is_semicolon = is_semicolon
ends_with End is_semicolon = true
ends_with _ is_semicolon = false

-- whether a token ends its statement: `;` or the text's end
abbrev pub is_last : List ℕ → Token → Bool
is_last text t = ends_with t.kind (slice_index text t.start == 59)

-- the words of the statement from a place on: the next token, and where it does not end the statement those from its end on
abbrev pub AreWords : List ℕ → ℕ → List Token → Type 0
AreWords text from [] = ⊥
AreWords text from (t ∷ ts) = IsNext text from t × MatchBool (is_last text t) (ts ≡ []) (AreWords text t.end ts)

-- words of the statement from a place on, none the last, and then no token at `at`
abbrev pub StopsAt : List ℕ → ℕ → List Token → ℕ → Type 0
StopsAt text from [] at = IsStuck text from at
StopsAt text from (t ∷ ts) at = IsNext text from t × (is_last text t ≡ false) × StopsAt text t.end ts at

-- the first place of the statement from `from` on at which no word stands
abbrev pub IsWordFault : List ℕ → ℕ → ℕ → Type 0
IsWordFault text from at = (before : List Token) × StopsAt text from before at
