use Rattle.std.proofs.Common.{ap, sym, ◌∙◌, slice_get, Some}
use Rattle.catalog.specs.work.Entries.{index_of}
use Rattle.scan_probes.specs.work.Filters.{lent_conditions}
use Rattle.scan_exec.specs.work.Kinds.{IsReadyEntry, entry_at, passes_entry, passes_row}
use Rattle.scan_exec.proofs.StepLemmas.{entry_fails, entry_rest, entry_row, onward_split, ready_behind, ready_entry, ready_first, ready_row, row_fails}
use Rattle.scan_exec.proofs.sorted.IndexRows.next.Goals as goal

pub pass_entry-requires : goal.pass_entry-requires
pass_entry-requires g c =
    let s = c.loop-entry.self-inside in
    let tests = lent_conditions s.tests.items in
    let es = lent_conditions s.clauses.items in
    let d = index_of s.def.now in
    ready_entry s.beside.cat.now s.beside.range.now s.beside.rel.0 s.given tests _ d c.in-Some.entry (ap lent_conditions c.deref.ensures.value) (ready_first (IsReadyEntry s.beside.cat.now s.beside.range.now s.beside.rel.0 s.given tests es d s.heap.now.rows) s.cursor c.in-Some.entry c.next.new.self c.in-Some.ensures.some c.loop-entry.invariant.0).entry

pub pass_row-requires : goal.pass_row-requires
pass_row-requires g c =
    let s = c.loop-entry.self-inside in
    let tests = lent_conditions s.tests.items in
    let es = lent_conditions s.clauses.items in
    let d = index_of s.def.now in
    ready_row s.beside.cat.now s.beside.range.now s.beside.rel.0 s.given es _ s.heap.now.rows c.in-Some.entry.row c.fetch-row.result.now (ap (λ n. slice_get s.heap.now.rows n) (sym c.tid-tid.ensures) ∙ c.fetch-row.ensures.row) (ap lent_conditions c.deref-then-pass_entry.ensures.value) (ready_first (IsReadyEntry s.beside.cat.now s.beside.range.now s.beside.rel.0 s.given tests es d s.heap.now.rows) s.cursor c.in-Some.entry c.next.new.self c.in-Some.ensures.some c.loop-entry.invariant.0).row

pub invariant_of-self : goal.invariant_of-self
invariant_of-self g c =
    let s = c.loop-entry.self-inside in
    let tests = lent_conditions s.tests.items in
    let es = lent_conditions s.clauses.items in
    let d = index_of s.def.now in
    ready_behind (IsReadyEntry s.beside.cat.now s.beside.range.now s.beside.rel.0 s.given tests es d s.heap.now.rows) s.cursor c.in-Some.entry c.next.new.self c.in-Some.ensures.some c.loop-entry.invariant.0

pub returns-then-pass_row-clause-row : goal.returns-then-pass_row-clause-row
returns-then-pass_row-clause-row g c =
    let s = c.loop-entry.self-inside in
    let tests = lent_conditions s.tests.items in
    let es = lent_conditions s.clauses.items in
    let d = index_of s.def.now in
    ap Some c.tid-tid.ensures ∙ entry_row s.beside.rel.0 s.given es s.heap.now.rows tests d c.in-Some.entry c.next.new.self c.args.self.now c.args.fetches.now c.loop-entry.fetches c.args.reads.now c.loop-entry.reads c.next.new.steps (onward_split (entry_at s.beside.rel.0 s.given tests es d s.heap.now.rows) s.cursor c.in-Some.entry c.next.new.self c.in-Some.ensures.some c.args.self.now c.args.fetches.now c.loop-entry.fetches c.args.reads.now c.loop-entry.reads c.loop-entry.invariant.1) c.in-Some.ensures.step (sym (c.pass_entry.ensures ∙ ap (λ l. passes_entry s.beside.rel.0 s.given (lent_conditions l) d c.in-Some.entry) c.deref.ensures.value) ∙ c.if-pass_entry.true) c.fetch-row.result.now c.pass_row.result c.fetch-row.new.fetches (ap (λ n. slice_get s.heap.now.rows n) (sym c.tid-tid.ensures) ∙ c.fetch-row.ensures.row) (c.pass_row.ensures ∙ ap (λ l. passes_row s.beside.rel.0 s.given (lent_conditions l) c.fetch-row.result.now) c.deref-then-pass_entry.ensures.value) c.fetch-row.ensures.cost c.if-pass_row.true

pub returns-then-pass_row-clause-rest : goal.returns-then-pass_row-clause-rest
returns-then-pass_row-clause-rest g c =
    let s = c.loop-entry.self-inside in
    let tests = lent_conditions s.tests.items in
    let es = lent_conditions s.clauses.items in
    let d = index_of s.def.now in
    entry_rest s.beside.rel.0 s.given es s.heap.now.rows tests d c.in-Some.entry c.next.new.self c.args.self.now c.args.fetches.now c.loop-entry.fetches c.args.reads.now c.loop-entry.reads c.next.new.steps (onward_split (entry_at s.beside.rel.0 s.given tests es d s.heap.now.rows) s.cursor c.in-Some.entry c.next.new.self c.in-Some.ensures.some c.args.self.now c.args.fetches.now c.loop-entry.fetches c.args.reads.now c.loop-entry.reads c.loop-entry.invariant.1) c.in-Some.ensures.step (sym (c.pass_entry.ensures ∙ ap (λ l. passes_entry s.beside.rel.0 s.given (lent_conditions l) d c.in-Some.entry) c.deref.ensures.value) ∙ c.if-pass_entry.true) c.fetch-row.result.now c.pass_row.result c.fetch-row.new.fetches (ap (λ n. slice_get s.heap.now.rows n) (sym c.tid-tid.ensures) ∙ c.fetch-row.ensures.row) (c.pass_row.ensures ∙ ap (λ l. passes_row s.beside.rel.0 s.given (lent_conditions l) c.fetch-row.result.now) c.deref-then-pass_entry.ensures.value) c.fetch-row.ensures.cost c.if-pass_row.true

pub loop-entry-preserved-else-pass_row : goal.loop-entry-preserved-else-pass_row
loop-entry-preserved-else-pass_row g c =
    let s = c.loop-entry.self-inside in
    let tests = lent_conditions s.tests.items in
    let es = lent_conditions s.clauses.items in
    let d = index_of s.def.now in
    (ready_behind (IsReadyEntry s.beside.cat.now s.beside.range.now s.beside.rel.0 s.given tests es d s.heap.now.rows) s.cursor c.in-Some.entry c.next.new.self c.in-Some.ensures.some c.loop-entry.invariant.0, row_fails s.beside.rel.0 s.given es s.heap.now.rows tests d c.in-Some.entry c.next.new.self c.args.self.now c.args.fetches.now c.loop-entry.fetches c.args.reads.now c.loop-entry.reads c.next.new.steps (onward_split (entry_at s.beside.rel.0 s.given tests es d s.heap.now.rows) s.cursor c.in-Some.entry c.next.new.self c.in-Some.ensures.some c.args.self.now c.args.fetches.now c.loop-entry.fetches c.args.reads.now c.loop-entry.reads c.loop-entry.invariant.1) c.in-Some.ensures.step (sym (c.pass_entry.ensures ∙ ap (λ l. passes_entry s.beside.rel.0 s.given (lent_conditions l) d c.in-Some.entry) c.deref.ensures.value) ∙ c.if-pass_entry.true) c.fetch-row.result.now c.pass_row.result c.fetch-row.new.fetches (ap (λ n. slice_get s.heap.now.rows n) (sym c.tid-tid.ensures) ∙ c.fetch-row.ensures.row) (c.pass_row.ensures ∙ ap (λ l. passes_row s.beside.rel.0 s.given (lent_conditions l) c.fetch-row.result.now) c.deref-then-pass_entry.ensures.value) c.fetch-row.ensures.cost c.if-pass_row.false)

pub loop-entry-preserved : goal.loop-entry-preserved
loop-entry-preserved g c =
    let s = c.loop-entry.self-inside in
    let tests = lent_conditions s.tests.items in
    let es = lent_conditions s.clauses.items in
    let d = index_of s.def.now in
    (ready_behind (IsReadyEntry s.beside.cat.now s.beside.range.now s.beside.rel.0 s.given tests es d s.heap.now.rows) s.cursor c.in-Some.entry c.next.new.self c.in-Some.ensures.some c.loop-entry.invariant.0, entry_fails s.beside.rel.0 s.given es s.heap.now.rows tests d c.in-Some.entry c.next.new.self c.args.self.now c.args.fetches.now c.loop-entry.fetches c.args.reads.now c.loop-entry.reads c.next.new.steps (onward_split (entry_at s.beside.rel.0 s.given tests es d s.heap.now.rows) s.cursor c.in-Some.entry c.next.new.self c.in-Some.ensures.some c.args.self.now c.args.fetches.now c.loop-entry.fetches c.args.reads.now c.loop-entry.reads c.loop-entry.invariant.1) c.in-Some.ensures.step (sym (c.pass_entry.ensures ∙ ap (λ l. passes_entry s.beside.rel.0 s.given (lent_conditions l) d c.in-Some.entry) c.deref.ensures.value) ∙ c.if-pass_entry.false))
