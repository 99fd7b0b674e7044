use Rattle.worked_values.specs.work.Worked.{IsWorked}
use Rattle.worked_values.proofs.lines.lines_of.Given as goal

abbrev pub invariant-loop-row : goal.invariant-loop-row
invariant-loop-row l = IsWorked l.groups
