use Rattle.std.proofs.Common.{ap, sym, ◌∙◌}
use Rattle.scan_probes.specs.work.Filters.{lent_conditions}
use Rattle.scan_exec.specs.work.Kinds.{passes_row}
use Rattle.scan_exec.proofs.SeqLemmas.{row_ready, seq_on, seq_row, seq_rest, seq_exact, unlooked_from}
use Rattle.scan_exec.specs.work.Coming.{looks_allowed}
use Rattle.scan_exec.proofs.seq.SeqRows.next.Goals as goal

pub pass_row-requires : goal.pass_row-requires
pass_row-requires g c =
    let s = c.loop-n.self-inside in
    row_ready s.beside.rel.0 s.given (lent_conditions s.clauses.items) s.heap.now.rows s.beside.cat.now s.beside.range.now _ c.loop-n.n _ c.args.self.now c.args.fetches.now _ c.loop-n.invariant c.loop-n-test.true
    c.fetch-row.result.now _ c.fetch-row.ensures.row (ap lent_conditions c.deref.ensures.value)

pub returns-then-pass_row-clause-row : goal.returns-then-pass_row-clause-row
returns-then-pass_row-clause-row g c =
    let s = c.loop-n.self-inside in
    seq_row s.beside.rel.0 s.given (lent_conditions s.clauses.items) s.heap.now.rows s.beside.cat.now s.beside.range.now _ c.loop-n.n _ c.args.self.now c.args.fetches.now _ c.loop-n.invariant c.loop-n-test.true
    c.fetch-row.result.now c.pass_row.result c.fetch-row.new.fetches c.fetch-row.ensures.row (c.pass_row.ensures ∙ ap (λ l. passes_row s.beside.rel.0 s.given (lent_conditions l) c.fetch-row.result.now) c.deref.ensures.value) c.if-pass_row.true c.fetch-row.ensures.cost

pub returns-then-pass_row-clause-rest : goal.returns-then-pass_row-clause-rest
returns-then-pass_row-clause-rest g c =
    let s = c.loop-n.self-inside in
    seq_rest s.beside.rel.0 s.given (lent_conditions s.clauses.items) s.heap.now.rows s.beside.cat.now s.beside.range.now _ c.loop-n.n _ c.args.self.now c.args.fetches.now _ c.loop-n.invariant c.loop-n-test.true
    c.fetch-row.result.now c.pass_row.result c.fetch-row.new.fetches c.fetch-row.ensures.row (c.pass_row.ensures ∙ ap (λ l. passes_row s.beside.rel.0 s.given (lent_conditions l) c.fetch-row.result.now) c.deref.ensures.value) c.if-pass_row.true c.fetch-row.ensures.cost

pub returns-then-pass_row-clause-exact : goal.returns-then-pass_row-clause-exact
returns-then-pass_row-clause-exact g c =
    let s = c.loop-n.self-inside in
    seq_exact s.beside.rel.0 s.given (lent_conditions s.clauses.items) s.heap.now.rows s.beside.cat.now s.beside.range.now _ c.loop-n.n _ c.args.self.now c.args.fetches.now _ c.loop-n.invariant c.loop-n-test.true
    c.fetch-row.result.now c.pass_row.result c.fetch-row.new.fetches c.fetch-row.ensures.row (c.pass_row.ensures ∙ ap (λ l. passes_row s.beside.rel.0 s.given (lent_conditions l) c.fetch-row.result.now) c.deref.ensures.value) c.if-pass_row.true c.fetch-row.ensures.cost

pub loop-n-preserved : goal.loop-n-preserved
loop-n-preserved g c =
    let s = c.loop-n.self-inside in
    seq_on s.beside.rel.0 s.given (lent_conditions s.clauses.items) s.heap.now.rows s.beside.cat.now s.beside.range.now _ c.loop-n.n _ c.args.self.now c.args.fetches.now _ c.loop-n.invariant c.loop-n-test.true
    c.fetch-row.result.now c.pass_row.result c.fetch-row.new.fetches c.fetch-row.ensures.row (c.pass_row.ensures ∙ ap (λ l. passes_row s.beside.rel.0 s.given (lent_conditions l) c.fetch-row.result.now) c.deref.ensures.value) c.if-pass_row.false c.fetch-row.ensures.cost

pub returns-then-pass_row-clause-unlooked : goal.returns-then-pass_row-clause-unlooked
returns-then-pass_row-clause-unlooked g c =
    let s = c.loop-n.self-inside in
    let i = c.self.inside in
    unlooked_from s.beside.rel.0 s.given (lent_conditions s.clauses.items) s.heap.now.rows _
    ∙ sym (ap looks_allowed (sym c.self.view_is) ∙ unlooked_from i.beside.rel.0 i.given (lent_conditions i.clauses.items) i.heap.now.rows i.at)
