use Rattle.std.proofs.Common.{◌≡◌, drop, filter_map}
use Rattle.group_reader.specs.Binding.{ungrouped_part}
use Rattle.group_reader.specs.work.Meaning.{first_of}
use Rattle.group_reader.proofs.lists.first_part.Given as goal

abbrev pub invariant-loop-part : goal.invariant-loop-part
invariant-loop-part l = first_of (filter_map (ungrouped_part l.keys) (drop l.part-index l.parts)) ≡ first_of (filter_map (ungrouped_part l.keys) l.parts)
