use Rattle.std.proofs.Common.{◌<◌, ◌≤◌, ℕ}
use Rattle.plan_check.specs.work.Views.{certificate}
use Rattle.plan_check.specs.work.Placing.{IsOf, place_at}
use Rattle.join_cover.specs.work.Serving.{IsNestServed}
use Rattle.join_cover.proofs.nests.open_inner.Given as goal

abbrev pub invariant-loop-i : goal.invariant-loop-i
invariant-loop-i l = (n : ℕ) → l.fn.within.0 ≤ n → n < l.i → IsOf (certificate l.j.t.now).entries l.work.outer.0 l.k → IsOf (certificate l.j.t.now).entries l.work.inner.0 (place_at l.j.places.now n) → IsNestServed l.j.cat.now l.j.q.now (certificate l.j.t.now) l.k (place_at l.j.places.now n)
