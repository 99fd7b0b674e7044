use Rattle.std.proofs.Common.{◌<◌, ℕ}
use Rattle.plan_check.specs.work.Views.{certificate}
use Rattle.scan_cover.specs.work.Trees.{AreBitmapsServed}
use Rattle.scan_cover.proofs.bitmap_relations.open_relation.Given as goal

abbrev pub invariant-loop-bits : goal.invariant-loop-bits
invariant-loop-bits l = (m : ℕ) → m < l.bits → AreBitmapsServed l.j.cat.now l.j.q.now l.rel (record { 0 = m }) (certificate l.j.t.now)
