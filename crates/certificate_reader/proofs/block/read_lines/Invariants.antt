use Rattle.std.proofs.Common.{length, map}
use Rattle.plan_check.specs.work.Views.{entry}
use Rattle.certificate_reader.specs.work.Reading.{IsReadSoFar}
use Rattle.certificate_reader.proofs.block.read_lines.Given as goal

abbrev pub invariant-loop-line : goal.invariant-loop-line
invariant-loop-line g l = IsReadSoFar l.cat l.q l.block (map entry l.entries.items) l.left

abbrev pub decreases-loop-line : goal.decreases-loop-line
decreases-loop-line g l = length l.left
