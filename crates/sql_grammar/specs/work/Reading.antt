-- Working words beside those of `Reading`.
use Rattle.std.specs.Prelude.{◌≡◌, ℕ, ◌^◌, ◌<◌, ◌≤◌, All, Bool, true, false, List, [], ◌∷◌, length, cond, nat_eq}
use Rattle.sql_lex.specs.declared.tokens.Token.{Token}
use Rattle.sql_grammar.specs.work.Terminals.{class_of}
use Rattle.sql_grammar.specs.work.Table.{is_ending}
use Rattle.sql_grammar.specs.Reading.{terminal_of}

-- the token stands in the text
pub record IsWithin (text : List ℕ) (token : Token) : Type 0 where
  pub ordered : token.start ≤ token.end
  pub inside : token.end ≤ length text

-- `;` or the text's end
abbrev pub is_end : List ℕ → Token → Bool
is_end text token = is_ending (class_of (terminal_of text token))

-- the last token, and no other, is an end
abbrev pub ends_once : List ℕ → List Token → Bool
ends_once text [] = false
ends_once text (token ∷ tokens) = cond (is_end text token) (nat_eq (length tokens) 0) (ends_once text tokens)

-- the tokens are words of this text up to a statement's end
pub record AreTokens (text : List ℕ) (tokens : List Token) : Type 0 where
  pub inside : All (IsWithin text) tokens
  pub few : length tokens < 2 ^ 32
  pub last : ends_once text tokens ≡ true
