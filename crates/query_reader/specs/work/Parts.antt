-- A SELECT with its ORDER BY and its window where it stands among the tokens of a statement (own).
use Rattle.std.specs.Prelude.{◌≡◌, ℕ, ◌≤◌, List, length, drop, take, Option, Some, None}
use Rattle.sql_lex.specs.declared.tokens.Token.{Token}
use Rattle.sql_grammar.specs.Syntax.{no_limit, no_offset, window, WindowedSelect, windowed_select, Ending, no_explain, ordered_select, Statement, query, check, use_plan}
use Rattle.sql_grammar.specs.Words.{words_of_windowed}
use Rattle.sql_grammar.specs.Faults.{AreWithinLimits, terminals}
use Rattle.sql_grammar.specs.Spelled.{IsSpelled}

-- the tokens from number `first` up to, but not including, number `end` are its words, in a statement within the limits
pub record IsPartAt (text : List ℕ) (tokens : List Token) (first end : ℕ) (x : WindowedSelect) : Type 0 where
  pub within : end ≤ length tokens
  pub words : words_of_windowed x ≡ terminals text (drop first (take end tokens))
  pub limits : AreWithinLimits (terminals text tokens)

-- the tokens from number `first` up to, but not including, number `end` are those of some SELECT
abbrev pub HavePart : List ℕ → List Token → ℕ → ℕ → Type 0
HavePart text tokens first end = (x : WindowedSelect) × IsPartAt text tokens first end x

-- a SELECT as a statement by itself, with this end
abbrev pub as_statement : WindowedSelect → Ending → Statement
as_statement (windowed_select q y v) e = query (ordered_select no_explain q y v e)

-- the tokens from number `first` on are its words and the one that ends the statement, within the limits
abbrev pub IsSelectAt : List ℕ → List Token → ℕ → WindowedSelect → Type 0
IsSelectAt text tokens first x = (e : Ending) × IsSpelled (as_statement x e) text (drop first tokens)

-- the tokens from number `first` on are those of some SELECT and the one that ends the statement, within the limits
abbrev pub HaveSelectAt : List ℕ → List Token → ℕ → Type 0
HaveSelectAt text tokens first = (x : WindowedSelect) × IsSelectAt text tokens first x

-- the SELECT that a statement's end ends, where there is one
abbrev pub select_of : Statement → Option WindowedSelect
select_of (query (ordered_select _ q y v _)) = Some (windowed_select q y v)
select_of (check _ _ x _) = Some x
select_of (use_plan _ _ _ q y _) = Some (windowed_select q y (window no_limit no_offset))
select_of _ = None
