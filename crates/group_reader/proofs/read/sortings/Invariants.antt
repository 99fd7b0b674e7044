use Rattle.std.proofs.Common.{◌≡◌, true, List, ◌∷◌, ◌++◌, length}
use Rattle.sql_grammar.specs.Terminals.{Terminal}
use Rattle.sql_grammar.specs.Syntax.{Mark, Ordering}
use Rattle.sql_grammar.specs.Words.{words_of_ordering, words_of_orderings}
use Rattle.expr_reader.specs.Lists.{further_parts}
use Rattle.query_reader.specs.work.Ends.{ends_order}
use Rattle.group_reader.specs.work.Written.{sorting_of}
use Rattle.group_reader.proofs.read.sortings.Given as goal

abbrev pub invariant-more : goal.invariant-more
invariant-more l =
    (x : Ordering) (xs : List (Mark × Ordering)) (rest : List Terminal) → ends_order rest ≡ true → l.fn.from ≡ words_of_ordering x ++ (words_of_orderings xs ++ rest) →
    (left : List (Mark × Ordering)) × (l.all.items ++ further_parts sorting_of left ≡ sorting_of x ∷ further_parts sorting_of xs) × (l.from ≡ words_of_orderings left ++ rest)

abbrev pub decreases-more : goal.decreases-more
decreases-more l = length l.from
