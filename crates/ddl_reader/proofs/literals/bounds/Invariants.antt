use Rattle.std.proofs.Common.{◌≡◌, List, ◌∷◌, length}
use Rattle.sql_grammar.specs.Terminals.{Terminal}
use Rattle.sql_grammar.specs.Syntax.{Mark, Lit}
use Rattle.expr_reader.specs.Lists.{further_parts}
use Rattle.ddl_reader.specs.work.AsMeant.{words_of_bounds_left}
use Rattle.ddl_reader.proofs.ListLemmas.{So}
use Rattle.ddl_reader.proofs.LiteralListLemmas.{bound_parts}
use Rattle.ddl_reader.proofs.literals.bounds.Given as goal

abbrev pub invariant-more : goal.invariant-more
invariant-more l = (x : Lit) (xs : List (Mark × Lit)) (m : Mark) (rest : List Terminal) → l.fn.from ≡ words_of_bounds_left x xs m rest → So (bound_parts l.t) (x ∷ further_parts (λ y. y) xs) l.all.items l.from m rest

abbrev pub decreases-more : goal.decreases-more
decreases-more l = length l.from
