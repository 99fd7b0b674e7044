use Rattle.std.proofs.Common.{All, length, map}
use Rattle.scan_probes.specs.work.Filters.{lent_conditions}
use Rattle.scan_exec.specs.work.Kinds.{IsReadyNumber, rows_of}
use Rattle.scan_exec.proofs.DrawLemmas.{IsOnward}
use Rattle.scan_exec.proofs.numbers.HashRows.next.Given as goal

abbrev pub invariant-loop-tid : goal.invariant-loop-tid
invariant-loop-tid g l =
    let s = l.self-inside in
    let ns = map (λ t. t.0) s.tids.now in
    All (IsReadyNumber s.beside.cat.now s.beside.range.now s.beside.rel.0 s.given (lent_conditions s.clauses.items) s.heap.now.rows) ns
    × IsOnward l.fn.self (rows_of s.beside.rel.0 s.given (lent_conditions s.clauses.items) s.heap.now.rows ns) l.fn.fetches l.fetches 0 0

abbrev pub decreases-loop-tid : goal.decreases-loop-tid
decreases-loop-tid g l = length l.self-inside.tids.now
