use Rattle.std.proofs.Common.{◌≡◌, ◌++◌, drop, map}
use Rattle.group_query.specs.Grouping.{plain_item}
use Rattle.group_reader.proofs.lists.class_items.Given as goal

-- what is put so far, with what is left, is all
abbrev pub invariant-loop-key : goal.invariant-loop-key
invariant-loop-key l = l.all.items ++ map plain_item (drop l.key-index l.keys) ≡ l.fn.order ++ map plain_item l.keys
