-- What reading a SELECT gives: said of its syntax tree, of which tokens have one at most.
use Rattle.std.specs.Prelude.{ℕ, List, ◌∷◌}
use Rattle.sql_grammar.specs.declared.class.Free.TheVariants.{Check, Explain, Use}
use Rattle.sql_grammar.specs.declared.class.Symbol.TheVariants.{Open}
use Rattle.sql_grammar.specs.Terminals.{Terminal, free, t_mark, t_name}

-- the number of words before the SELECT that a statement's end ends: behind EXPLAIN (TABLE) 4, behind EXPLAIN or CHECK 1,
-- behind USE PLAN 2, else 0
abbrev pub words_before : List Terminal → ℕ
words_before (t_name (free Explain _) ∷ t_mark Open _ ∷ _) = 4
words_before (t_name (free Explain _) ∷ _) = 1
words_before (t_name (free Check _) ∷ _) = 1
words_before (t_name (free Use _) ∷ _) = 2
words_before _ = 0
