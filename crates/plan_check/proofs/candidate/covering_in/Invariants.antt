use Rattle.std.proofs.Common.{◌<◌, ◌≤◌, ℕ}
use Rattle.plan_check.specs.work.Beating.{IsUnbeatenAt}
use Rattle.plan_check.specs.work.Placing.{place_at}
use Rattle.plan_check.proofs.candidate.covering_in.Given as goal

abbrev pub invariant-loop-i : goal.invariant-loop-i
invariant-loop-i l = (r : ℕ) → l.fn.within.0 ≤ r → r < l.i → IsUnbeatenAt l.q l.entries l.x (place_at l.places r)
