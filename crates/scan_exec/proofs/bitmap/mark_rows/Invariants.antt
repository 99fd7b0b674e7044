use Rattle.std.proofs.Common.{◌<◌, drop, map}
use Rattle.std.specs.List.{AllByRecursion}
use Rattle.pg_base.specs.declared.numbers.Tid.{Tid}
use Rattle.scan_exec.proofs.HeldLemmas.{IsMarking}
use Rattle.scan_exec.proofs.bitmap.mark_rows.Given as goal

abbrev pub invariant-loop-tid : goal.invariant-loop-tid
invariant-loop-tid l =
    IsMarking l.fn.held l.held (map (λ (t : Tid). t.0) l.tids) (map (λ (t : Tid). t.0) (drop l.tid-index l.tids))
    × AllByRecursion (λ (t : Tid). t.0 < l.fn.held.bound) (drop l.tid-index l.tids)
