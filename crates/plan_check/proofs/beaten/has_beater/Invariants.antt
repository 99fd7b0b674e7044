use Rattle.std.proofs.Common.{◌<◌, ◌≤◌, ℕ, map}
use Rattle.plan_check.specs.work.Views.{entry}
use Rattle.plan_check.specs.work.Beating.{IsNoBeater}
use Rattle.plan_check.specs.work.Placing.{place_at}
use Rattle.plan_check.proofs.beaten.has_beater.Given as goal

abbrev pub invariant-loop-i : goal.invariant-loop-i
invariant-loop-i l = (r : ℕ) → l.fn.within.0 ≤ r → r < l.i → IsNoBeater l.q.window (map entry l.entries) l.n (place_at l.places r)
