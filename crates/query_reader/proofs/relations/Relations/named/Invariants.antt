use Rattle.std.proofs.Common.{◌≡◌, refl}
use Rattle.expr_reader.specs.Scope.{of_name, the_one}
use Rattle.query_reader.specs.work.Scope.{visible_in}
use Rattle.query_reader.proofs.RelationsLemmas.{after, left, name-parts}
use Rattle.query_reader.proofs.relations.Relations.named.Given as goal

-- the columns of the name so far, with those to come
abbrev pub invariant-loop-number : goal.invariant-loop-number
invariant-loop-number l = after l.found (left (of_name l.name) (name-parts l.name) refl l.self l.number) ≡ the_one (of_name l.name (visible_in l.self))
