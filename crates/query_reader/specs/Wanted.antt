-- What the words before a SELECT ask of it. Own; EXPLAIN is PostgreSQL's (manual, EXPLAIN).
use Rattle.std.specs.Prelude.{List, ◌∷◌}
use Rattle.sql_grammar.specs.declared.class.Free.TheVariants.{Explain}
use Rattle.sql_grammar.specs.declared.class.Symbol.TheVariants.{Open}
use Rattle.sql_grammar.specs.Terminals.{Terminal, free, t_mark, t_name}
use Rattle.query_reader.specs.declared.wanted.Wanted.{Wanted}
use Rattle.query_reader.specs.declared.wanted.Wanted.TheVariants.{Rows, Plan, Table}

-- the plan with its table behind EXPLAIN and a parenthesis, as EXPLAIN (TABLE) begins; the plan behind EXPLAIN; else the rows
abbrev pub wanted_by : List Terminal → Wanted
wanted_by (t_name (free Explain _) ∷ t_mark Open _ ∷ _) = Table
wanted_by (t_name (free Explain _) ∷ _) = Plan
wanted_by _ = Rows
