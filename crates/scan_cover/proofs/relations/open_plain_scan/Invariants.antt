use Rattle.std.proofs.Common.{◌<◌, ℕ}
use Rattle.plan_check.specs.work.Views.{certificate}
use Rattle.scan_cover.specs.work.Scanning.{IsRelationServed}
use Rattle.scan_cover.proofs.relations.open_plain_scan.Given as goal

abbrev pub invariant-loop-r : goal.invariant-loop-r
invariant-loop-r l = (r : ℕ) → r < l.r → IsRelationServed l.j.cat.now l.j.q.now (certificate l.j.t.now) (record { 0 = r })
