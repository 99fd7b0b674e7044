-- The parts of ADVISE, each with the word at which its faults stand (own).
use Rattle.std.specs.Prelude.{List, ◌∷◌}
use Rattle.sql_lex.specs.declared.tokens.Token.{Token}
use Rattle.sql_grammar.specs.Terminals.{token_of}
use Rattle.sql_grammar.specs.Syntax.{Mark, Cand, cand_on, WindowedSelect, Advised, advised}
use Rattle.expr_reader.specs.Lists.{further_parts}

-- the word that names a candidate
abbrev pub name_token : Cand → Token
name_token (cand_on n _ _ _ _ _ _ _ _ _) = token_of n

-- all candidates
abbrev pub candidates_of : Cand → List (Mark × Cand) → List Cand
candidates_of x xs = x ∷ further_parts (λ c. c) xs

-- the SELECT between two parentheses
abbrev pub select_in : Advised → WindowedSelect
select_in (advised _ x _) = x

-- the `(` before it
abbrev pub open_token : Advised → Token
open_token (advised o _ _) = o
