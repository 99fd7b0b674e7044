use Rattle.std.proofs.Common.{◌≡◌, ◌++◌, drop}
use Rattle.sql_grammar.proofs.stack.Stack.push_all.Given as goal

abbrev pub invariant-loop-k : goal.invariant-loop-k
invariant-loop-k l = l.self ≡ drop l.k l.items ++ l.fn.self
