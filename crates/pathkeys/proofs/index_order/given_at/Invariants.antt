use Rattle.std.proofs.Common.{◌≡◌, [], take, drop, slice_get}
use Rattle.pathkeys.specs.Keys.{keys_from}
use Rattle.pathkeys.specs.work.Finding.{keys_after}
use Rattle.pathkeys.proofs.index_order.given_at.Given as goal

abbrev pub invariant-loop-at : goal.invariant-loop-at
invariant-loop-at l = slice_get (keys_after l.classes l.r.0 l.backward (take l.at l.columns) (drop l.at l.columns)) l.left ≡ slice_get (keys_from l.classes l.r.0 l.backward [] l.columns) l.n
