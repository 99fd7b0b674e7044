use Rattle.std.proofs.Common.{◌≡◌, ◌++◌, drop, filter_map}
use Rattle.group_reader.specs.Binding.{column_of_part}
use Rattle.group_reader.proofs.lists.part_columns.Given as goal

abbrev pub invariant-loop-part : goal.invariant-loop-part
invariant-loop-part l = l.all.items ++ filter_map column_of_part (drop l.part-index l.parts) ≡ filter_map column_of_part l.parts
