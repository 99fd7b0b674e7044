use Rattle.std.proofs.Common.{◌≡◌, drop, map}
use Rattle.group_reader.specs.Binding.{ungrouped_items}
use Rattle.group_reader.specs.work.Meaning.{first_of, last_word}
use Rattle.group_reader.proofs.lists.first_item.Given as goal

abbrev pub invariant-loop-n : goal.invariant-loop-n
invariant-loop-n l = first_of (ungrouped_items l.keys (drop l.n l.order) (map last_word (drop l.n l.sorts))) ≡ first_of (ungrouped_items l.keys l.order (map last_word l.sorts))
