use Rattle.std.proofs.Common.{All, length, map}
use Rattle.catalog.specs.work.Entries.{index_of}
use Rattle.scan_probes.specs.work.Filters.{lent_conditions}
use Rattle.scan_exec.specs.work.Kinds.{IsReadyCover, covered_at}
use Rattle.scan_exec.proofs.DrawLemmas.{IsOnward}
use Rattle.scan_exec.proofs.sorted.OnlyRows.next.Given as goal

abbrev pub invariant-loop-entry : goal.invariant-loop-entry
invariant-loop-entry g l =
    let s = l.self-inside in
    All (IsReadyCover s.beside.cat.now s.beside.range.now s.beside.rel.0 s.given (lent_conditions s.tests.items) (lent_conditions s.clauses.items) (index_of s.def.now)) s.cursor
    × IsOnward l.fn.self (map (covered_at s.beside.rel.0 s.given (lent_conditions s.tests.items) (lent_conditions s.clauses.items) (index_of s.def.now)) s.cursor) 0 0 l.fn.reads l.reads

abbrev pub decreases-loop-entry : goal.decreases-loop-entry
decreases-loop-entry g l = length l.self-inside.cursor
