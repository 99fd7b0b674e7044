use Rattle.std.proofs.Common.{◌≡◌, ◌++◌, take, drop}
use Rattle.pathkeys.specs.Keys as keys
use Rattle.pathkeys.specs.work.Keys as keys_work
use Rattle.pathkeys.specs.work.Finding.{class_numbers, order_after}
use Rattle.pathkeys.proofs.query_order.order_keys.Given as goal

abbrev pub invariant-loop-at : goal.invariant-loop-at
invariant-loop-at l = class_numbers l.items.items ++ order_after l.classes (take l.at l.order) (drop l.at l.order) ≡ keys.order_keys l.classes l.order
