use Rattle.std.proofs.Common.{◌≡◌, take, drop, slice_get}
use Rattle.pathkeys.specs.Keys as keys
use Rattle.pathkeys.specs.work.Keys as keys_work
use Rattle.pathkeys.specs.work.Finding.{order_after}
use Rattle.pathkeys.proofs.query_order.order_key.Given as goal

abbrev pub invariant-loop-at : goal.invariant-loop-at
invariant-loop-at l = slice_get (order_after l.classes (take l.at l.order) (drop l.at l.order)) l.left ≡ slice_get (keys.order_keys l.classes l.order) l.n
