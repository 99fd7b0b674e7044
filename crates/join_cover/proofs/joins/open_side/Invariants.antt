use Rattle.std.proofs.Common.{◌<◌, ℕ}
use Rattle.plan_check.specs.work.Views.{certificate}
use Rattle.join_cover.specs.work.Serving.{AreJoinsOf}
use Rattle.join_cover.proofs.joins.open_side.Given as goal

abbrev pub invariant-loop-bits : goal.invariant-loop-bits
invariant-loop-bits l = (y : ℕ) → y < l.bits → AreJoinsOf l.j.cat.now l.j.q.now (certificate l.j.t.now) l.outer.0 y
