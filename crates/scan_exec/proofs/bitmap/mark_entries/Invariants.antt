use Rattle.std.proofs.Common.{length}
use Rattle.catalog.specs.work.Entries.{index_of}
use Rattle.scan_probes.specs.work.Filters.{lent_conditions}
use Rattle.scan_exec.proofs.HeldLemmas.{IsMarkingBy}
use Rattle.scan_exec.proofs.bitmap.mark_entries.Given as goal

abbrev pub invariant-loop-entry : goal.invariant-loop-entry
invariant-loop-entry g l =
    IsMarkingBy l.tests.beside.now.cat.now l.tests.beside.now.range.now l.tests.beside.now.rel.0 l.tests.given.now (lent_conditions l.tests.conditions.now) (index_of l.tests.def.now) l.fn.held l.held l.fn.cursor l.left l.fn.reads l.reads

abbrev pub decreases-loop-entry : goal.decreases-loop-entry
decreases-loop-entry g l = length l.left
