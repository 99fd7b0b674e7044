use Rattle.std.proofs.Common.{◌≡◌, true, List, ◌∷◌, ◌++◌, length}
use Rattle.sql_grammar.specs.FromParts.{groups_after}
use Rattle.sql_grammar.specs.Terminals.{Terminal}
use Rattle.sql_grammar.specs.Syntax.{Group, Mark}
use Rattle.sql_grammar.specs.Words.{words_of_group, words_of_groups}
use Rattle.query_reader.specs.work.Ends.{ends_from}
use Rattle.query_reader.specs.From.{with_groups}
use Rattle.query_reader.proofs.sources.Sources.take_groups.Given as goal

-- what all groups mean is what those that are left do
abbrev pub invariant-more : goal.invariant-more
invariant-more l =
    (g : Group) (gs : List (Mark × Group)) (rest : List Terminal) → ends_from rest ≡ true → l.fn.from ≡ words_of_group g ++ (words_of_groups gs ++ rest) →
    (more : List (Mark × Group)) × (l.from ≡ words_of_groups more ++ rest) × (with_groups l.fn.self (g ∷ groups_after gs) ≡ with_groups l.self (groups_after more))

abbrev pub decreases-more : goal.decreases-more
decreases-more l = length l.from
