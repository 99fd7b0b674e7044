-- Which statement some tokens spell, within all limits (the numbers of the limits are own).
use Rattle.std.specs.Prelude.{◌≡◌, ℕ, ◌≤◌, List}
use Rattle.pg_base.specs.declared.limits.TheConstants.{MOST_LEVELS}
use Rattle.sql_lex.specs.declared.tokens.Token.{Token}
use Rattle.sql_grammar.specs.Syntax.{Statement}
use Rattle.sql_grammar.specs.Words.{words_of, levels_of}
use Rattle.sql_grammar.specs.Faults.{terminals, AreWithinLimits}

-- the tokens are the words of this statement: none is past a limit, and its expressions are not nested too deep
pub record IsSpelled (x : Statement) (text : List ℕ) (tokens : List Token) : Type 0 where
  pub words : words_of x ≡ terminals text tokens
  pub limits : AreWithinLimits (terminals text tokens)
  pub levels : levels_of x ≤ MOST_LEVELS
