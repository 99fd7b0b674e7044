use Rattle.std.proofs.Common.{◌≡◌, ◌++◌, drop}
use Rattle.expr_reader.specs.Scope.{columns_in_scope}
use Rattle.query_reader.specs.Scope.{relations_from}
use Rattle.query_reader.specs.work.Scope.{visible_in}
use Rattle.query_reader.proofs.relations.Relations.add_all.Given as goal

-- the columns so far, with those to come, are all
abbrev pub invariant-loop-number : goal.invariant-loop-number
invariant-loop-number l = l.all.items ++ columns_in_scope (relations_from l.self.contents l.number (drop l.number l.self.range)) ≡ l.fn.all.items ++ columns_in_scope (visible_in l.self)
