-- Working words beside those of `Faults`.
use Rattle.std.specs.Prelude.{◌≡◌, ℕ, ◌+◌, ◌≤◌, List, [], ◌∷◌, ◌++◌, length, drop, Option, MatchOption, Result, Ok, Err}
use Rattle.pg_base.specs.declared.faults.Fault.{Fault}
use Rattle.pg_base.specs.declared.limits.TheConstants.{MOST_LEVELS}
use Rattle.sql_lex.specs.declared.tokens.Token.{Token}
use Rattle.sql_grammar.specs.Reading.{terminal_of}
use Rattle.sql_grammar.specs.Syntax.{Select, WindowedSelect, Cand, Expr}
use Rattle.sql_grammar.specs.Words.{words_of_select, words_of_windowed, words_of_cand, words_of_expr, levels_of_select, levels_of_windowed, levels_of_cand, levels_of_expr}
use Rattle.sql_grammar.specs.Faults.{Production, IsStatement, IsPrefix, AreWithinLimits, terminals, IsFirstFault}

-- a SELECT
abbrev pub IsSelect : Production
IsSelect limit ts = (q : Select) × (levels_of_select q ≤ limit) × (words_of_select q ≡ ts)

-- a SELECT with its order and its window, where they are written
abbrev pub IsWindowed : Production
IsWindowed limit ts = (x : WindowedSelect) × (levels_of_windowed x ≤ limit) × (words_of_windowed x ≡ ts)

-- CREATE INDEX without its first two words and its end
abbrev pub IsCand : Production
IsCand limit ts = (x : Cand) × (levels_of_cand x ≤ limit) × (words_of_cand x ≡ ts)

-- an expression
abbrev pub IsExpr : Production
IsExpr limit ts = (e : Expr) × (levels_of_expr e ≤ limit) × (words_of_expr e ≡ ts)

-- the longest list of tokens from `first` on that begins the production is whole, within the limits, and ends before token `end`
pub record EndsAt (Of : Production) (text : List ℕ) (tokens : List Token) (first end : ℕ) : Type 0 where
  pub before : List Token
  pub token : Token
  pub after : List Token
  pub split : drop first tokens ≡ before ++ token ∷ after
  pub place : end ≡ first + length before
  pub whole : Of MOST_LEVELS (terminals text before)
  pub within : AreWithinLimits (terminals text before)
  pub longest : (limit : ℕ) → ¬ IsPrefix Of limit (terminals text before ++ terminal_of text token ∷ [])

-- the end of the part of the statement that begins at token `first`, or its first fault
abbrev pub IsPartEnd : Production → List ℕ → List Token → ℕ → Result ℕ Fault → Type 0
IsPartEnd Of text tokens first (Ok end) = EndsAt Of text tokens first end
IsPartEnd Of text tokens first (Err fault) = IsFirstFault Of text (drop first tokens) fault

-- tokens are a statement within the limits
pub record IsWhole (text : List ℕ) (tokens : List Token) : Type 0 where
  pub statement : IsStatement MOST_LEVELS (terminals text tokens)
  pub within : AreWithinLimits (terminals text tokens)

-- the first fault of a statement; none where the tokens are a statement within the limits
abbrev pub IsStatementFault : List ℕ → List Token → Option Fault → Type 0
IsStatementFault text tokens told = MatchOption told (IsWhole text tokens) (λ f. IsFirstFault IsStatement text tokens f)
