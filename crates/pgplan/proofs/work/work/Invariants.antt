use Rattle.std.proofs.Common.{◌≡◌, ◌≤◌, ◌-◌, length}
use Rattle.pgplan.proofs.ScriptLemmas.{IsUnderWay}
use Rattle.pgplan.proofs.work.work.Given as goal

abbrev pub invariant-statements : goal.invariant-statements
invariant-statements g l = record {
  way : IsUnderWay l.text l.at l.machine (g.K.Sink.held l.fn.out) (g.K.Sink.held l.out);
  within : l.at ≤ length l.text;
  quiet : g.K.Sink.faults l.out ≡ g.K.Sink.faults l.fn.out;
}

abbrev pub decreases-statements : goal.decreases-statements
decreases-statements g l = length l.text - l.at
