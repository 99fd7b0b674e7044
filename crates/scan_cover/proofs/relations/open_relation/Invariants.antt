use Rattle.std.proofs.Common.{◌<◌, ℕ}
use Rattle.pg_base.specs.declared.numbers.IndexNo.{IndexNo}
use Rattle.plan_check.specs.work.Views.{certificate}
use Rattle.scan_cover.specs.work.Scanning.{IsIndexServed}
use Rattle.scan_cover.proofs.relations.open_relation.Given as goal

abbrev pub invariant-loop-bits : goal.invariant-loop-bits
invariant-loop-bits l = (m : ℕ) → m < l.bits → (i : IndexNo) → IsIndexServed l.j.cat.now l.j.q.now (certificate l.j.t.now) l.r (record { 0 = m }) i
