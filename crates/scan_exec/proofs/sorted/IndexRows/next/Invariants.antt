use Rattle.std.proofs.Common.{All, length, map}
use Rattle.catalog.specs.work.Entries.{index_of}
use Rattle.scan_probes.specs.work.Filters.{lent_conditions}
use Rattle.scan_exec.specs.work.Kinds.{IsReadyEntry, entry_at}
use Rattle.scan_exec.proofs.DrawLemmas.{IsOnward}
use Rattle.scan_exec.proofs.sorted.IndexRows.next.Given as goal

abbrev pub invariant-loop-entry : goal.invariant-loop-entry
invariant-loop-entry g l =
    let s = l.self-inside in
    All (IsReadyEntry s.beside.cat.now s.beside.range.now s.beside.rel.0 s.given (lent_conditions s.tests.items) (lent_conditions s.clauses.items) (index_of s.def.now) s.heap.now.rows) s.cursor
    × IsOnward l.fn.self (map (entry_at s.beside.rel.0 s.given (lent_conditions s.tests.items) (lent_conditions s.clauses.items) (index_of s.def.now) s.heap.now.rows) s.cursor) l.fn.fetches l.fetches l.fn.reads l.reads

abbrev pub decreases-loop-entry : goal.decreases-loop-entry
decreases-loop-entry g l = length l.self-inside.cursor
