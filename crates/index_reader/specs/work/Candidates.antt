-- A candidate for an index as a part of a statement: the text of CREATE INDEX behind its first two words, without its end
-- (own).
use Rattle.std.specs.Prelude.{◌≡◌, ℕ, ◌≤◌, List, length, drop, take}
use Rattle.sql_lex.specs.declared.tokens.Token.{Token}
use Rattle.sql_grammar.specs.Syntax.{Cand, cand_on, CreateIndex, index_on}
use Rattle.sql_grammar.specs.Words.{words_of_cand}
use Rattle.sql_grammar.specs.Faults.{AreWithinLimits, terminals}

-- the candidate that a CREATE INDEX has
abbrev pub cand_of : CreateIndex → Cand
cand_of (index_on _ _ n o t u p x xs m c w _) = cand_on n o t u p x xs m c w

-- the tokens from number `first` up to, but not including, number `end` are its words, in a statement within the limits
pub record IsCandAt (text : List ℕ) (tokens : List Token) (first end : ℕ) (x : Cand) : Type 0 where
  pub within : end ≤ length tokens
  pub words : words_of_cand x ≡ terminals text (drop first (take end tokens))
  pub limits : AreWithinLimits (terminals text tokens)

-- the tokens from number `first` up to, but not including, number `end` are those of some candidate
abbrev pub HaveCand : List ℕ → List Token → ℕ → ℕ → Type 0
HaveCand text tokens first end = (x : Cand) × IsCandAt text tokens first end x
