use Rattle.std.proofs.Common.{◌≡◌, ◌++◌, [], take, drop}
use Rattle.pathkeys.specs.Keys.{keys_from}
use Rattle.pathkeys.specs.work.Finding.{class_numbers, keys_after}
use Rattle.pathkeys.proofs.index_order.give_all.Given as goal

abbrev pub invariant-loop-at : goal.invariant-loop-at
invariant-loop-at l = class_numbers l.items.items ++ keys_after l.classes l.r.0 l.backward (take l.at l.columns) (drop l.at l.columns) ≡ class_numbers l.fn.items.items ++ keys_from l.classes l.r.0 l.backward [] l.columns
