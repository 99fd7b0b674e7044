use Rattle.std.proofs.Common.{◌≡◌, ◌++◌, ◌+◌, drop, length}
use Rattle.group_query.specs.Shapes.{calls_of, shown_from}
use Rattle.group_query.proofs.shape.shown_in.Given as goal

abbrev pub invariant-loop-item : goal.invariant-loop-item
invariant-loop-item l =
    (l.shown.items ++ shown_from l.called (drop l.item-index l.items) ≡ shown_from 0 l.items) ×
    (l.called + length (calls_of (drop l.item-index l.items)) ≡ length (calls_of l.items))
