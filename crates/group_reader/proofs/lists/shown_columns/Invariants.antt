use Rattle.std.proofs.Common.{◌≡◌, ◌++◌, drop, filter_map}
use Rattle.group_reader.specs.Binding.{shown_column}
use Rattle.group_reader.proofs.lists.shown_columns.Given as goal

abbrev pub invariant-loop-part : goal.invariant-loop-part
invariant-loop-part l = l.all.items ++ filter_map shown_column (drop l.part-index l.parts) ≡ filter_map shown_column l.parts
