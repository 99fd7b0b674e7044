use Rattle.std.proofs.Common.{◌≡◌, drop}
use Rattle.opfamily.specs.KeyOrder.{key_values_order}
use Rattle.opfamily.proofs.ordering.keys_order.Given as goal

abbrev pub invariant-loop-i : goal.invariant-loop-i
invariant-loop-i l = key_values_order (drop l.i l.keys) (drop l.i l.a) (drop l.i l.b) ≡ key_values_order l.keys l.a l.b
