use Rattle.std.proofs.Common.{take}
use Rattle.std.specs.Prelude.{All}
use Rattle.plan_check.specs.work.Views.{certificate}
use Rattle.scan_cover.specs.work.Scanning.{IsIndexServed}
use Rattle.scan_cover.proofs.relations.open_given.Given as goal

abbrev pub invariant-loop-i : goal.invariant-loop-i
invariant-loop-i l = All (IsIndexServed l.j.cat.now l.j.q.now (certificate l.j.t.now) l.r l.p) (take l.i-index l.indexes)
