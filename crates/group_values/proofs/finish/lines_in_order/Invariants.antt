use Rattle.std.proofs.Common.{◌≡◌, map, take}
use Rattle.group_values.specs.Groups.{line}
use Rattle.group_values.proofs.finish.lines_in_order.Given as goal

abbrev pub invariant-loop-group : goal.invariant-loop-group
invariant-loop-group l = l.lines.items ≡ map (line l.items) (take l.group-index l.groups)
