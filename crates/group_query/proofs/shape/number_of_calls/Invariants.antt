use Rattle.std.proofs.Common.{◌≡◌, ◌+◌, ◌≤◌, drop, length}
use Rattle.group_query.specs.Shapes.{calls_of}
use Rattle.group_query.proofs.shape.number_of_calls.Given as goal

abbrev pub invariant-loop-item : goal.invariant-loop-item
invariant-loop-item l = (l.number + length (calls_of (drop l.item-index l.item-items)) ≡ length (calls_of l.item-items)) × (l.number ≤ l.item-index)
