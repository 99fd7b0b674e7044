use Rattle.std.proofs.Common.{◌≡◌, ◌<◌, ℕ, get_or, map}
use Rattle.std.specs.Prelude.{Some, slice_get}
use Rattle.plan_check.specs.Certificates.{Entry}
use Rattle.plan_check.specs.work.Views.{entry}
use Rattle.plan_check.specs.work.Placing.{IsAmong, order_of}
use Rattle.plan_check.proofs.places.SetPlaces.of.Given as goal

-- the entries at the ranks before are placed
abbrev pub invariant-loop-i : goal.invariant-loop-i
invariant-loop-i l = (order_of l.places ≡ l.order) × ((r : ℕ) (e : Entry) → r < l.i → slice_get (map entry l.entries) (get_or l.order r 0) ≡ Some e → IsAmong l.places e.set.0 r)
