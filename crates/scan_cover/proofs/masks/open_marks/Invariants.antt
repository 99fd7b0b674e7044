use Rattle.std.proofs.Common.{◌<◌, ℕ}
use Rattle.plan_check.specs.work.Views.{certificate}
use Rattle.scan_cover.specs.work.Trees.{IsMarkServed}
use Rattle.scan_cover.proofs.masks.open_marks.Given as goal

abbrev pub invariant-loop-mask : goal.invariant-loop-mask
invariant-loop-mask l = (m : ℕ) → m < l.mask → IsMarkServed l.j.cat.now l.j.q.now l.at.rel l.at.param (certificate l.j.t.now) l.kept m
