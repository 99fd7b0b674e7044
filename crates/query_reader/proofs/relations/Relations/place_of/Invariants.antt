use Rattle.std.proofs.Common.{◌≡◌}
use Rattle.expr_reader.specs.Scope.{under}
use Rattle.query_reader.specs.work.Scope.{visible_in}
use Rattle.query_reader.proofs.RelationsLemmas.{sought}
use Rattle.query_reader.proofs.relations.Relations.place_of.Given as goal

-- no relation so far has the alias
abbrev pub invariant-loop-number : goal.invariant-loop-number
invariant-loop-number l = sought l.self l.alias l.number ≡ under l.alias (visible_in l.self)
