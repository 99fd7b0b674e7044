use Rattle.std.proofs.Common.{◌≡◌, ◌≤◌, All, length}
use Rattle.pg_base.specs.declared.limits.TheConstants.{MOST_ROWS}
use Rattle.heap.specs.work.TidSets.{not_below}
use Rattle.scan_probes.specs.work.Filters.{lent_conditions}
use Rattle.scan_probes.specs.work.Scenes.{AreReadyAtRow}
use Rattle.scan_exec.specs.work.Kinds.{rows_of}
use Rattle.scan_exec.proofs.DrawLemmas.{IsOnward}
use Rattle.scan_exec.proofs.numbers.BitRows.next.Given as goal

abbrev pub invariant-loop-tid : goal.invariant-loop-tid
invariant-loop-tid g l =
    let s = l.self-inside in
    (s.held.bound ≡ length s.heap.now.rows)
    × (length s.heap.now.rows ≤ MOST_ROWS)
    × All (AreReadyAtRow s.beside.cat.now s.beside.range.now s.beside.rel.0 s.given (lent_conditions s.clauses.items)) s.heap.now.rows
    × IsOnward l.fn.self (rows_of s.beside.rel.0 s.given (lent_conditions s.clauses.items) s.heap.now.rows (not_below s.at s.held.members)) l.fn.fetches l.fetches 0 0

abbrev pub decreases-loop-tid : goal.decreases-loop-tid
decreases-loop-tid g l = length (not_below l.self-inside.at l.self-inside.held.members)
