use Rattle.std.proofs.Common.{◌≡◌, [], ◌++◌, drop, map}
use Rattle.eq_classes.specs.declared.order.OrderItem.{OrderItem}
use Rattle.group_reader.proofs.lists.order_columns.Given as goal

-- what is put so far, with what is left, is all
abbrev pub invariant-loop-item : goal.invariant-loop-item
invariant-loop-item l = l.all.items ++ map (λ (i : OrderItem). i.col) (drop l.item-index l.order) ≡ ([]) ++ map (λ (i : OrderItem). i.col) l.order
