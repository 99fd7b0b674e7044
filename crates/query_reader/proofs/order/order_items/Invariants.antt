use Rattle.std.proofs.Common.{◌≡◌, true, List, ◌∷◌, ◌++◌, length}
use Rattle.sql_grammar.specs.Terminals.{Terminal}
use Rattle.sql_grammar.specs.Syntax.{Mark, Ordering}
use Rattle.sql_grammar.specs.Words.{words_of_ordering, words_of_orderings}
use Rattle.expr_reader.specs.Lists.{further_parts}
use Rattle.query_reader.specs.work.Ends.{ends_order}
use Rattle.query_reader.specs.Order.{order_item}
use Rattle.query_reader.specs.work.Scope.{visible_in}
use Rattle.query_reader.proofs.OrderLemmas.{So}
use Rattle.query_reader.proofs.order.order_items.Given as goal

abbrev pub invariant-more : goal.invariant-more
invariant-more l =
    (o : Ordering) (os : List (Mark × Ordering)) (rest : List Terminal) → ends_order rest ≡ true → l.fn.from ≡ words_of_ordering o ++ (words_of_orderings os ++ rest) →
    So (order_item (visible_in l.relations) l.select) (o ∷ further_parts (λ x. x) os) l.all.items l.from rest

abbrev pub decreases-more : goal.decreases-more
decreases-more l = length l.from
