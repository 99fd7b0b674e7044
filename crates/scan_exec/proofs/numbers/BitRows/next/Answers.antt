use Rattle.std.proofs.Common.{◌+◌, ap, ◌∙◌, arith}
use Rattle.heap.specs.work.TidSets.{not_below}
use Rattle.scan_probes.specs.work.Filters.{lent_conditions}
use Rattle.scan_exec.specs.work.Kinds.{fetched_at, passes_row}
use Rattle.scan_exec.proofs.StepLemmas.{number_fails, number_rest, number_row, onward_split, ready_at}
use Rattle.scan_exec.proofs.numbers.BitRows.next.Goals as goal

pub overflow_add-self : goal.overflow_add-self
overflow_add-self g c =
    let below = c.in-Some.ensures.within in
    let bound = c.loop-tid.invariant.0 in
    let few = c.loop-tid.invariant.1 in
    omega (arith, below, bound, few)

pub pass_row-requires : goal.pass_row-requires
pass_row-requires g c =
    let s = c.loop-tid.self-inside in
    let es = lent_conditions s.clauses.items in
    let below = c.in-Some.ensures.within in
    let bound = c.loop-tid.invariant.0 in
    ready_at s.beside.cat.now s.beside.range.now s.beside.rel.0 s.given es _ s.heap.now.rows c.in-Some.tid.0 c.fetch-row.result.now c.fetch-row.ensures.row (ap lent_conditions c.deref.ensures.value) (omega (arith, below, bound)) c.loop-tid.invariant.2

pub returns-then-pass_row-clause-row : goal.returns-then-pass_row-clause-row
returns-then-pass_row-clause-row g c =
    let s = c.loop-tid.self-inside in
    let es = lent_conditions s.clauses.items in
    number_row s.beside.rel.0 s.given es s.heap.now.rows c.in-Some.tid.0 (not_below (c.in-Some.tid.0 + 1) s.held.members) c.args.self.now c.args.fetches.now c.loop-tid.fetches (onward_split (fetched_at s.beside.rel.0 s.given es s.heap.now.rows) (not_below s.at s.held.members) c.in-Some.tid.0 (not_below (c.in-Some.tid.0 + 1) s.held.members) c.in-Some.ensures.some c.args.self.now c.args.fetches.now c.loop-tid.fetches 0 0 c.loop-tid.invariant.3) c.fetch-row.result.now c.pass_row.result c.fetch-row.new.fetches c.fetch-row.ensures.row (c.pass_row.ensures ∙ ap (λ l. passes_row s.beside.rel.0 s.given (lent_conditions l) c.fetch-row.result.now) c.deref.ensures.value) c.fetch-row.ensures.cost c.if-pass_row.true

pub returns-then-pass_row-clause-rest : goal.returns-then-pass_row-clause-rest
returns-then-pass_row-clause-rest g c =
    let s = c.loop-tid.self-inside in
    let es = lent_conditions s.clauses.items in
    number_rest s.beside.rel.0 s.given es s.heap.now.rows c.in-Some.tid.0 (not_below (c.in-Some.tid.0 + 1) s.held.members) c.args.self.now c.args.fetches.now c.loop-tid.fetches (onward_split (fetched_at s.beside.rel.0 s.given es s.heap.now.rows) (not_below s.at s.held.members) c.in-Some.tid.0 (not_below (c.in-Some.tid.0 + 1) s.held.members) c.in-Some.ensures.some c.args.self.now c.args.fetches.now c.loop-tid.fetches 0 0 c.loop-tid.invariant.3) c.fetch-row.result.now c.pass_row.result c.fetch-row.new.fetches c.fetch-row.ensures.row (c.pass_row.ensures ∙ ap (λ l. passes_row s.beside.rel.0 s.given (lent_conditions l) c.fetch-row.result.now) c.deref.ensures.value) c.fetch-row.ensures.cost c.if-pass_row.true

pub loop-tid-preserved : goal.loop-tid-preserved
loop-tid-preserved g c =
    let s = c.loop-tid.self-inside in
    let es = lent_conditions s.clauses.items in
    (c.loop-tid.invariant.0, c.loop-tid.invariant.1, c.loop-tid.invariant.2, number_fails s.beside.rel.0 s.given es s.heap.now.rows c.in-Some.tid.0 (not_below (c.in-Some.tid.0 + 1) s.held.members) c.args.self.now c.args.fetches.now c.loop-tid.fetches (onward_split (fetched_at s.beside.rel.0 s.given es s.heap.now.rows) (not_below s.at s.held.members) c.in-Some.tid.0 (not_below (c.in-Some.tid.0 + 1) s.held.members) c.in-Some.ensures.some c.args.self.now c.args.fetches.now c.loop-tid.fetches 0 0 c.loop-tid.invariant.3) c.fetch-row.result.now c.pass_row.result c.fetch-row.new.fetches c.fetch-row.ensures.row (c.pass_row.ensures ∙ ap (λ l. passes_row s.beside.rel.0 s.given (lent_conditions l) c.fetch-row.result.now) c.deref.ensures.value) c.fetch-row.ensures.cost c.if-pass_row.false)
