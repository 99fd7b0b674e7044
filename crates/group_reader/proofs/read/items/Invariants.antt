use Rattle.std.proofs.Common.{◌≡◌, List, ◌∷◌, ◌++◌, length}
use Rattle.sql_grammar.specs.Terminals.{Terminal, t_key}
use Rattle.sql_grammar.specs.declared.class.Word.TheVariants.{From}
use Rattle.sql_grammar.specs.Syntax.{Key, Mark, GroupedItem}
use Rattle.sql_grammar.specs.Words.{words_of_grouped_item, words_of_grouped_items}
use Rattle.expr_reader.specs.Lists.{further_parts}
use Rattle.group_reader.specs.work.Written.{listed_of}
use Rattle.group_reader.proofs.read.items.Given as goal

abbrev pub invariant-more : goal.invariant-more
invariant-more l =
    (x : GroupedItem) (xs : List (Mark × GroupedItem)) (f : Key) (rest : List Terminal) → l.fn.from ≡ words_of_grouped_item x ++ (words_of_grouped_items xs ++ t_key From f ∷ rest) →
    (left : List (Mark × GroupedItem)) × (l.all.items ++ further_parts listed_of left ≡ listed_of x ∷ further_parts listed_of xs) × (l.from ≡ words_of_grouped_items left ++ t_key From f ∷ rest)

abbrev pub decreases-more : goal.decreases-more
decreases-more l = length l.from
