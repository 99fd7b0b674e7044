use Rattle.std.proofs.Common.{◌≡◌, List, ◌∷◌, ◌++◌, length}
use Rattle.sql_grammar.specs.Terminals.{Terminal, t_key}
use Rattle.sql_grammar.specs.declared.class.Word.TheVariants.{From}
use Rattle.sql_grammar.specs.Syntax.{Key, Mark, Output}
use Rattle.sql_grammar.specs.Words.{words_of_output, words_of_outputs}
use Rattle.query_reader.specs.Written.{item_of, items_of}
use Rattle.query_reader.proofs.read.items.Given as goal

abbrev pub invariant-more : goal.invariant-more
invariant-more l =
    (o : Output) (os : List (Mark × Output)) (f : Key) (rest : List Terminal) → l.fn.from ≡ words_of_output o ++ (words_of_outputs os ++ t_key From f ∷ rest) →
    (left : List (Mark × Output)) × (l.all.items ++ items_of left ≡ item_of o ∷ items_of os) × (l.from ≡ words_of_outputs left ++ t_key From f ∷ rest)

abbrev pub decreases-more : goal.decreases-more
decreases-more l = length l.from
