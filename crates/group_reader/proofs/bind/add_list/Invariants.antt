use Rattle.std.proofs.Common.{◌≡◌, List, ◌++◌, drop, Ok}
use Rattle.catalog.specs.Range.{type_in}
use Rattle.query_reader.specs.work.Scope.{visible_in}
use Rattle.group_reader.specs.declared.parts.Part.{Part}
use Rattle.group_reader.specs.work.Meaning.{list_said, then_parts}
use Rattle.group_reader.proofs.bind.add_list.Given as goal

abbrev pub invariant-loop-listed : goal.invariant-loop-listed
invariant-loop-listed l =
    let said = list_said (visible_in l.relations) (type_in l.relations.contents l.relations.range) in
    (so : List Part) × (l.parts.items ≡ l.fn.parts.items ++ so) × (then_parts (Ok so) (said (drop l.listed-index l.list)) ≡ said l.list)
