use Rattle.std.proofs.Common.{◌<◌, ◌≤◌, ℕ, false}
use Rattle.pathkeys.specs.work.Finding.{class_numbers}
use Rattle.plan_check.specs.work.Placing.{place_at}
use Rattle.plan_check.specs.work.Views.{certificate}
use Rattle.join_cover.specs.work.Serving.{IsRowServed}
use Rattle.join_cover.proofs.merges.open_rows.Given as goal

abbrev pub invariant-loop-i : goal.invariant-loop-i
invariant-loop-i l = (n : ℕ) → l.fn.within.0 ≤ n → n < l.i → IsRowServed l.j.cat.now l.j.q.now (certificate l.j.t.now) (class_numbers l.work.list.now) l.work.outer.0 l.work.inner.0 (place_at l.j.places.now n) false l.least
