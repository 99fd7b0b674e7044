use Rattle.std.proofs.Common.{◌-◌, length}
use Rattle.sql_grammar.proofs.Walked.{Walking}
use Rattle.sql_grammar.proofs.walk.walk.Given as goal

abbrev pub invariant-loop-stack : goal.invariant-loop-stack
invariant-loop-stack l = Walking l.text l.tokens l.first l.start l.at l.stack

abbrev pub decreases-loop-stack : goal.decreases-loop-stack
decreases-loop-stack l = length l.tokens - l.at
