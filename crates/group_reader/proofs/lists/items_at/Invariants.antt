use Rattle.std.proofs.Common.{◌≡◌, [], ◌++◌, drop, map}
use Rattle.group_reader.specs.Binding.{item_in}
use Rattle.group_reader.proofs.lists.items_at.Given as goal

-- what is put so far, with what is left, is all
abbrev pub invariant-loop-part : goal.invariant-loop-part
invariant-loop-part l = l.all.items ++ map (item_in l.keys) (drop l.part-index l.parts) ≡ ([]) ++ map (item_in l.keys) l.parts
