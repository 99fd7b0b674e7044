-- Which lists of terminals are statements, and where a list of tokens leaves the grammar: told of the lists that are
-- statements alone (codes 42601 and 54000: PostgreSQL manual, appendix Error Codes; the numbers of the limits are own).
use Rattle.std.specs.Prelude.{◌≡◌, ℕ, ◌+◌, ◌≤◌, List, [], ◌∷◌, ◌++◌, length, map, All, Option, Some, None, cond, nat_le}
use Rattle.pg_base.specs.declared.faults.Code.{Code}
use Rattle.pg_base.specs.declared.faults.Code.TheVariants.{S1, S15}
use Rattle.pg_base.specs.declared.faults.Limit.{Limit}
use Rattle.pg_base.specs.declared.faults.Limit.TheVariants.{Text, Name, Depth}
use Rattle.pg_base.specs.declared.faults.Fault.{Fault}
use Rattle.pg_base.specs.Faults.{words_fault}
use Rattle.pg_base.specs.declared.limits.TheConstants.{MOST_LEVELS, MOST_NAME_BYTES, MOST_TEXT_BYTES}
use Rattle.sql_lex.specs.declared.tokens.Token.{Token}
use Rattle.sql_grammar.specs.Terminals.{Ident, free, other, Terminal, t_name, t_quoted}
use Rattle.sql_grammar.specs.Reading.{free_spelling_of, terminal_of}
use Rattle.sql_grammar.specs.Syntax.{Statement}
use Rattle.sql_grammar.specs.Words.{words_of, levels_of}

-- lists of terminals, by the levels that their expressions may have
abbrev pub Production : Type 1
Production = ℕ → List Terminal → Type 0

-- a statement with its end
abbrev pub IsStatement : Production
IsStatement limit ts = (x : Statement) × (levels_of x ≤ limit) × (words_of x ≡ ts)

-- some list of the production begins so
abbrev pub IsPrefix : Production → Production
IsPrefix Of limit ts = (rest : List Terminal) × Of limit (ts ++ rest)

-- a name's bytes in small letters
abbrev pub bytes_of : Ident → List ℕ
bytes_of (free w _) = free_spelling_of w
bytes_of (other bytes _) = bytes

-- the limit that a terminal is past: that of a name, or of a quoted text's value, in bytes
abbrev pub limit_of : Terminal → Option Limit
limit_of (t_name n) = cond (nat_le (length (bytes_of n)) MOST_NAME_BYTES) None (Some Name)
limit_of (t_quoted q) = cond (nat_le (length q.value) MOST_TEXT_BYTES) None (Some Text)
limit_of _ = None

-- no terminal is past a limit
abbrev pub AreWithinLimits : List Terminal → Type 0
AreWithinLimits ts = All (λ t. limit_of t ≡ None) ts

-- the terminals of tokens of this text
abbrev pub terminals : List ℕ → List Token → List Terminal
terminals text tokens = map (terminal_of text) tokens

-- why a terminal is in error after others with which the production begins: the production never goes on with it; it opens
-- a level too many; it is awaited, and past a limit
abbrev pub IsAtFault : Production → List Terminal → Terminal → Code → Type 0
IsAtFault Of before t S1 = (limit : ℕ) → ¬ IsPrefix Of limit (before ++ t ∷ [])
IsAtFault Of before t (S15 Depth) = ¬ IsPrefix Of MOST_LEVELS (before ++ t ∷ []) × IsPrefix Of (MOST_LEVELS + 1) (before ++ t ∷ [])
IsAtFault Of before t (S15 limit) = IsPrefix Of MOST_LEVELS (before ++ t ∷ []) × (limit_of t ≡ Some limit)
IsAtFault Of before t _ = ⊥

-- where the words that a fault names end: a syntax fault names none
abbrev pub fault_end : Code → Token → ℕ
fault_end S1 token = token.start
fault_end _ token = token.end

-- the fault of a kind at a token
abbrev pub fault_at : Code → Token → Fault
fault_at code token = words_fault code token.start (fault_end code token)

-- the first fault of tokens that are to begin with the production: the tokens before it begin one, within the limits
pub record IsFirstFault (Of : Production) (text : List ℕ) (tokens : List Token) (fault : Fault) : Type 0 where
  pub before : List Token
  pub token : Token
  pub after : List Token
  pub split : tokens ≡ before ++ token ∷ after
  pub begins : IsPrefix Of MOST_LEVELS (terminals text before)
  pub within : AreWithinLimits (terminals text before)
  pub cause : IsAtFault Of (terminals text before) (terminal_of text token) fault.code
  pub unfinished : fault.code ≡ S1 → (limit : ℕ) → ¬ Of limit (terminals text before)
  pub place : fault ≡ fault_at fault.code token
