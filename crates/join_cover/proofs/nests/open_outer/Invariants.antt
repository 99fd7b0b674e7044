use Rattle.std.proofs.Common.{◌<◌, ◌≤◌, ℕ}
use Rattle.plan_check.specs.work.Views.{certificate}
use Rattle.plan_check.specs.work.Placing.{IsOf, place_at}
use Rattle.join_cover.specs.work.Serving.{IsNestServed}
use Rattle.join_cover.proofs.nests.open_outer.Given as goal

abbrev pub invariant-loop-i : goal.invariant-loop-i
invariant-loop-i l = (m n : ℕ) → l.fn.outer.0 ≤ m → m < l.i → l.inner.0 ≤ n → n < l.inner.1 → IsOf (certificate l.j.t.now).entries l.work.outer.0 (place_at l.j.places.now m) → IsOf (certificate l.j.t.now).entries l.work.inner.0 (place_at l.j.places.now n) → IsNestServed l.j.cat.now l.j.q.now (certificate l.j.t.now) (place_at l.j.places.now m) (place_at l.j.places.now n)
