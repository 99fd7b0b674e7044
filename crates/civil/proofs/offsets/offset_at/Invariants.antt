use Rattle.std.proofs.Common.{◌≡◌, ◌+◌, drop}
use Rattle.std.specs.List.{prefix_len}
use Rattle.civil.specs.Times.{is_of_time}
use Rattle.civil.proofs.offsets.offset_at.Given as goal

abbrev pub invariant-loop-n : goal.invariant-loop-n
invariant-loop-n l = l.n + prefix_len is_of_time (drop l.n l.time) ≡ prefix_len is_of_time l.time
