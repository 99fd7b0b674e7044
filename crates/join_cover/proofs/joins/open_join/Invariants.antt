use Rattle.std.proofs.Common.{◌<◌, ◌≤◌, ℕ}
use Rattle.plan_check.specs.work.Views.{certificate}
use Rattle.join_cover.specs.work.Serving.{AreJoinsOf}
use Rattle.join_cover.proofs.joins.open_join.Given as goal

abbrev pub invariant-loop-bits : goal.invariant-loop-bits
invariant-loop-bits l = (x y : ℕ) → x < l.bits → y ≤ l.all.0 → AreJoinsOf l.j.cat.now l.j.q.now (certificate l.j.t.now) x y
