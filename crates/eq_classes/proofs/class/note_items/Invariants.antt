use Rattle.std.proofs.Common.{◌≡◌, ℕ, ◌<◌, drop, slice_index_or}
use Rattle.eq_classes.specs.declared.order.OrderItem.{OrderItem}
use Rattle.eq_classes.specs.work.Building.{given, by_order}
use Rattle.eq_classes.proofs.class.note_items.Given as goal

abbrev pub invariant-loop-item : goal.invariant-loop-item
invariant-loop-item g l =
    let own = given (g.B.Binding.type_of l.from.typed.now) l.from.conjuncts.now l.from.order.now in
    (by_order own l.from.groups.now (drop l.item-index l.from.order.now) l.classes.items ≡ by_order own l.from.groups.now l.from.order.now l.fn.classes.items)
    × ((k : ℕ) (d : OrderItem) → k < l.item-index → (slice_index_or l.from.order.now k d).col.col.0 < 256)
