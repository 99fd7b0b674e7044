use Rattle.std.proofs.Common.{◌≡◌, drop}
use Rattle.group_values.specs.Groups.{same_keys}
use Rattle.group_values.proofs.orders.same_keys.Given as goal

abbrev pub invariant-loop-n : goal.invariant-loop-n
invariant-loop-n l = same_keys (drop l.n l.a) (drop l.n l.b) ≡ same_keys l.a l.b
