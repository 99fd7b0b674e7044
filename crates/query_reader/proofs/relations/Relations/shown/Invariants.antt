use Rattle.std.proofs.Common.{◌≡◌, refl}
use Rattle.expr_reader.specs.Scope.{the_one}
use Rattle.query_reader.specs.Order.{shown_of_name}
use Rattle.query_reader.specs.work.Scope.{visible_in}
use Rattle.query_reader.proofs.RelationsLemmas.{after, left, shown-parts}
use Rattle.query_reader.proofs.relations.Relations.shown.Given as goal

-- the columns of the name that the list shows so far, with those to come
abbrev pub invariant-loop-number : goal.invariant-loop-number
invariant-loop-number l = after l.found (left (λ s. shown_of_name s l.select l.name) (shown-parts l.select l.name) refl l.self l.number) ≡ the_one (shown_of_name (visible_in l.self) l.select l.name)
