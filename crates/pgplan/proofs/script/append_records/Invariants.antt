use Rattle.std.proofs.Common.{◌≡◌, ◌++◌, ◌*◌}
use Rattle.std.specs.String.{string_bytes}
use Rattle.pgplan.specs.Script.{drawn, records}
use Rattle.pgplan.proofs.script.append_records.Given as goal

abbrev pub invariant-loop-i : goal.invariant-loop-i
invariant-loop-i l = record {
  text : string_bytes l.text ≡ string_bytes l.initial.text ++ records l.initial.draws.state l.least l.below l.i;
  state : l.draws.state ≡ drawn l.initial.draws.state (2 * l.i);
}
