use Rattle.std.proofs.Common.{◌≡◌, map, take}
use Rattle.group_reply.specs.Replies.{item_type}
use Rattle.group_reply.proofs.types.item_types.Given as goal

abbrev pub invariant-loop-item : goal.invariant-loop-item
invariant-loop-item l = l.types.items ≡ map (item_type l.cat l.range l.keys) (take l.item-index l.items)
