use Rattle.std.proofs.Common.{◌≡◌, ◌++◌, drop}
use Rattle.group_query.specs.Shapes.{args_of}
use Rattle.group_query.proofs.shape.args_in.Given as goal

abbrev pub invariant-loop-item : goal.invariant-loop-item
invariant-loop-item l = l.args.items ++ args_of (drop l.item-index l.items) ≡ args_of l.items
