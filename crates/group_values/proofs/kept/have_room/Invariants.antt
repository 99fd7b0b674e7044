use Rattle.std.proofs.Common.{◌≡◌, drop}
use Rattle.group_values.specs.work.Steps.{have_room}
use Rattle.group_values.proofs.kept.have_room.Given as goal

abbrev pub invariant-loop-n : goal.invariant-loop-n
invariant-loop-n l = have_room (drop l.n l.calls) (drop l.n l.called) ≡ have_room l.calls l.called
