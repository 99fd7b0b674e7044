use Rattle.std.proofs.Common.{◌≡◌, true, List, ◌∷◌, ◌++◌, length}
use Rattle.sql_grammar.specs.Terminals.{Terminal}
use Rattle.sql_grammar.specs.Syntax.{Mark, Col}
use Rattle.sql_grammar.specs.Words.{words_of_col, words_of_group_columns}
use Rattle.expr_reader.specs.Lists.{further_parts}
use Rattle.group_reader.specs.work.Ends.{ends_columns}
use Rattle.group_reader.specs.work.Written.{column_written}
use Rattle.group_reader.proofs.read.columns.Given as goal

abbrev pub invariant-more : goal.invariant-more
invariant-more l =
    (x : Col) (xs : List (Mark × Col)) (rest : List Terminal) → ends_columns rest ≡ true → l.fn.from ≡ words_of_col x ++ (words_of_group_columns xs ++ rest) →
    (left : List (Mark × Col)) × (l.all.items ++ further_parts column_written left ≡ column_written x ∷ further_parts column_written xs) × (l.from ≡ words_of_group_columns left ++ rest)

abbrev pub decreases-more : goal.decreases-more
decreases-more l = length l.from
