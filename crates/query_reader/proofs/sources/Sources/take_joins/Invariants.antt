use Rattle.std.proofs.Common.{◌≡◌, true, List, ◌++◌, length}
use Rattle.sql_grammar.specs.Terminals.{Terminal}
use Rattle.sql_grammar.specs.Syntax.{Join}
use Rattle.sql_grammar.specs.Words.{words_of_joins}
use Rattle.query_reader.specs.work.Ends.{ends_group}
use Rattle.query_reader.specs.From.{with_joins}
use Rattle.query_reader.proofs.sources.Sources.take_joins.Given as goal

-- what all joins mean is what those that are left do
abbrev pub invariant-more : goal.invariant-more
invariant-more l =
    (js : List Join) (rest : List Terminal) → ends_group rest ≡ true → l.fn.from ≡ words_of_joins js ++ rest →
    (more : List Join) × (l.from ≡ words_of_joins more ++ rest) × (with_joins l.fn.first l.fn.self js ≡ with_joins l.first l.self more)

abbrev pub decreases-more : goal.decreases-more
decreases-more l = length l.from
