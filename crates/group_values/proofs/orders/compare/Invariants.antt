use Rattle.std.proofs.Common.{◌≡◌, drop, map}
use Rattle.pg_value.specs.Sorting.{one_after_other}
use Rattle.group_values.specs.Groups.{sorter_order}
use Rattle.group_values.proofs.orders.compare.Given as goal

abbrev pub invariant-loop-i : goal.invariant-loop-i
invariant-loop-i l = one_after_other (map sorter_order (drop l.i l.order)) l.a l.b ≡ one_after_other (map sorter_order l.order) l.a l.b
