use Rattle.std.proofs.Common.{◌-◌, ◌≤◌, length}
use Rattle.ddl_reader.proofs.Lines.{Passed}
use Rattle.ddl_reader.proofs.block.block_end.Given as goal

abbrev pub invariant-loop-at : goal.invariant-loop-at
invariant-loop-at l = (l.at ≤ length l.text) × Passed l.text l.start l.at

abbrev pub decreases-loop-at : goal.decreases-loop-at
decreases-loop-at l = length l.text - l.at
