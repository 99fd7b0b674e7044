use Rattle.scan_probes.specs.work.Filters.{lent_conditions}
use Rattle.scan_exec.proofs.SeqLemmas.{IsSeqDraw}
use Rattle.scan_exec.proofs.seq.SeqRows.next.Given as goal

abbrev pub invariant-loop-n : goal.invariant-loop-n
invariant-loop-n g l =
    let s = l.self-inside in
    IsSeqDraw s.beside.cat.now s.beside.range.now s.beside.rel.0 s.given (lent_conditions s.clauses.items) s.heap.now.rows s.at l.n l.n-end l.fn.self l.fn.fetches l.fetches
