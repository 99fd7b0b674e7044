use Rattle.std.proofs.Common.{◌≡◌, ◌++◌, drop}
use Rattle.group_query.specs.Shapes.{calls_of}
use Rattle.group_query.proofs.shape.calls_in.Given as goal

abbrev pub invariant-loop-item : goal.invariant-loop-item
invariant-loop-item l = l.calls.items ++ calls_of (drop l.item-index l.items) ≡ calls_of l.items
