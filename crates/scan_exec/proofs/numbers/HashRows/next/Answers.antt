use Rattle.std.proofs.Common.{◌≡◌, ◌∷◌, ap, ◌∙◌, map}
use Rattle.scan_probes.specs.work.Filters.{lent_conditions}
use Rattle.scan_exec.specs.work.Kinds.{IsReadyNumber, fetched_at, passes_row}
use Rattle.scan_exec.proofs.StepLemmas.{number_fails, number_rest, number_row, onward_split, ready_behind, ready_first, ready_row}
use Rattle.scan_exec.proofs.numbers.HashRows.next.Goals as goal

pub pass_row-requires : goal.pass_row-requires
pass_row-requires g c =
    let s = c.loop-tid.self-inside in
    let es = lent_conditions s.clauses.items in
    let split : map (λ t. t.0) s.tids.now ≡ c.in-Some.tid.now.0 ∷ map (λ t. t.0) c.in-Some.left.now = ap (map (λ t. t.0)) c.in-Some.ensures.cases.0 in
    ready_row s.beside.cat.now s.beside.range.now s.beside.rel.0 s.given es _ s.heap.now.rows c.in-Some.tid.now.0 c.fetch-row.result.now c.fetch-row.ensures.row (ap lent_conditions c.deref.ensures.value) (ready_first (IsReadyNumber s.beside.cat.now s.beside.range.now s.beside.rel.0 s.given es s.heap.now.rows) (map (λ t. t.0) s.tids.now) c.in-Some.tid.now.0 (map (λ t. t.0) c.in-Some.left.now) split c.loop-tid.invariant.0).clauses

pub invariant_of-self : goal.invariant_of-self
invariant_of-self g c =
    let s = c.loop-tid.self-inside in
    let es = lent_conditions s.clauses.items in
    let split : map (λ t. t.0) s.tids.now ≡ c.in-Some.tid.now.0 ∷ map (λ t. t.0) c.in-Some.left.now = ap (map (λ t. t.0)) c.in-Some.ensures.cases.0 in
    ready_behind (IsReadyNumber s.beside.cat.now s.beside.range.now s.beside.rel.0 s.given es s.heap.now.rows) (map (λ t. t.0) s.tids.now) c.in-Some.tid.now.0 (map (λ t. t.0) c.in-Some.left.now) split c.loop-tid.invariant.0

pub returns-then-pass_row-clause-row : goal.returns-then-pass_row-clause-row
returns-then-pass_row-clause-row g c =
    let s = c.loop-tid.self-inside in
    let es = lent_conditions s.clauses.items in
    let split : map (λ t. t.0) s.tids.now ≡ c.in-Some.tid.now.0 ∷ map (λ t. t.0) c.in-Some.left.now = ap (map (λ t. t.0)) c.in-Some.ensures.cases.0 in
    number_row s.beside.rel.0 s.given es s.heap.now.rows c.in-Some.tid.now.0 (map (λ t. t.0) c.in-Some.left.now) c.args.self.now c.args.fetches.now c.loop-tid.fetches (onward_split (fetched_at s.beside.rel.0 s.given es s.heap.now.rows) (map (λ t. t.0) s.tids.now) c.in-Some.tid.now.0 (map (λ t. t.0) c.in-Some.left.now) split c.args.self.now c.args.fetches.now c.loop-tid.fetches 0 0 c.loop-tid.invariant.1) c.fetch-row.result.now c.pass_row.result c.fetch-row.new.fetches c.fetch-row.ensures.row (c.pass_row.ensures ∙ ap (λ l. passes_row s.beside.rel.0 s.given (lent_conditions l) c.fetch-row.result.now) c.deref.ensures.value) c.fetch-row.ensures.cost c.if-pass_row.true

pub returns-then-pass_row-clause-rest : goal.returns-then-pass_row-clause-rest
returns-then-pass_row-clause-rest g c =
    let s = c.loop-tid.self-inside in
    let es = lent_conditions s.clauses.items in
    let split : map (λ t. t.0) s.tids.now ≡ c.in-Some.tid.now.0 ∷ map (λ t. t.0) c.in-Some.left.now = ap (map (λ t. t.0)) c.in-Some.ensures.cases.0 in
    number_rest s.beside.rel.0 s.given es s.heap.now.rows c.in-Some.tid.now.0 (map (λ t. t.0) c.in-Some.left.now) c.args.self.now c.args.fetches.now c.loop-tid.fetches (onward_split (fetched_at s.beside.rel.0 s.given es s.heap.now.rows) (map (λ t. t.0) s.tids.now) c.in-Some.tid.now.0 (map (λ t. t.0) c.in-Some.left.now) split c.args.self.now c.args.fetches.now c.loop-tid.fetches 0 0 c.loop-tid.invariant.1) c.fetch-row.result.now c.pass_row.result c.fetch-row.new.fetches c.fetch-row.ensures.row (c.pass_row.ensures ∙ ap (λ l. passes_row s.beside.rel.0 s.given (lent_conditions l) c.fetch-row.result.now) c.deref.ensures.value) c.fetch-row.ensures.cost c.if-pass_row.true

pub loop-tid-preserved : goal.loop-tid-preserved
loop-tid-preserved g c =
    let s = c.loop-tid.self-inside in
    let es = lent_conditions s.clauses.items in
    let split : map (λ t. t.0) s.tids.now ≡ c.in-Some.tid.now.0 ∷ map (λ t. t.0) c.in-Some.left.now = ap (map (λ t. t.0)) c.in-Some.ensures.cases.0 in
    (ready_behind (IsReadyNumber s.beside.cat.now s.beside.range.now s.beside.rel.0 s.given es s.heap.now.rows) (map (λ t. t.0) s.tids.now) c.in-Some.tid.now.0 (map (λ t. t.0) c.in-Some.left.now) split c.loop-tid.invariant.0, number_fails s.beside.rel.0 s.given es s.heap.now.rows c.in-Some.tid.now.0 (map (λ t. t.0) c.in-Some.left.now) c.args.self.now c.args.fetches.now c.loop-tid.fetches (onward_split (fetched_at s.beside.rel.0 s.given es s.heap.now.rows) (map (λ t. t.0) s.tids.now) c.in-Some.tid.now.0 (map (λ t. t.0) c.in-Some.left.now) split c.args.self.now c.args.fetches.now c.loop-tid.fetches 0 0 c.loop-tid.invariant.1) c.fetch-row.result.now c.pass_row.result c.fetch-row.new.fetches c.fetch-row.ensures.row (c.pass_row.ensures ∙ ap (λ l. passes_row s.beside.rel.0 s.given (lent_conditions l) c.fetch-row.result.now) c.deref.ensures.value) c.fetch-row.ensures.cost c.if-pass_row.false)
