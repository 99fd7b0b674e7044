use Rattle.std.proofs.Common.{◌≡◌, map, take}
use Rattle.group_values.specs.Groups.{shown_value}
use Rattle.group_values.proofs.kept.Kept.line.Given as goal

abbrev pub invariant-loop-item : goal.invariant-loop-item
invariant-loop-item l = l.values.items ≡ map (shown_value l.self) (take l.item-index l.items)
