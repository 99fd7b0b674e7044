use Rattle.std.proofs.Common.{ap, sym, ◌∙◌, Some, ap₂, Bool, ◌&&◌}
use Rattle.catalog.specs.work.Entries.{index_of}
use Rattle.scan_probes.specs.work.Filters.{lent_conditions}
use Rattle.scan_exec.specs.work.Kinds.{IsReadyCover, covered_at, passes_entry}
use Rattle.scan_exec.proofs.StepLemmas.{cover_fails, cover_row, covered_owed, onward_split, ready_behind, ready_entry, ready_first}
use Rattle.scan_exec.specs.Coming.{owed}
use Rattle.scan_exec.proofs.sorted.OnlyRows.next.Goals as goal
use Rattle.scan_exec.proofs.sorted.OnlyRows.next.Goals.{else-pass_entry-via-then-pass_entry+else-pass_entry-2, else-pass_entry-via-else-pass_entry}

pub pass_entry-requires : goal.pass_entry-requires
pass_entry-requires g c =
    let s = c.loop-entry.self-inside in
    let tests = lent_conditions s.tests.items in
    let es = lent_conditions s.clauses.items in
    let d = index_of s.def.now in
    ready_entry s.beside.cat.now s.beside.range.now s.beside.rel.0 s.given tests _ d c.in-Some.entry (ap lent_conditions c.deref.ensures.value) (ready_first (IsReadyCover s.beside.cat.now s.beside.range.now s.beside.rel.0 s.given tests es d) s.cursor c.in-Some.entry c.next.new.self c.in-Some.ensures.some c.loop-entry.invariant.0).tested

pub pass_entry-requires-then-pass_entry : goal.pass_entry-requires-then-pass_entry
pass_entry-requires-then-pass_entry g c =
    let s = c.loop-entry.self-inside in
    let tests = lent_conditions s.tests.items in
    let es = lent_conditions s.clauses.items in
    let d = index_of s.def.now in
    ready_entry s.beside.cat.now s.beside.range.now s.beside.rel.0 s.given es _ d c.in-Some.entry (ap lent_conditions c.deref-then-pass_entry.ensures.value) (ready_first (IsReadyCover s.beside.cat.now s.beside.range.now s.beside.rel.0 s.given tests es d) s.cursor c.in-Some.entry c.next.new.self c.in-Some.ensures.some c.loop-entry.invariant.0).clauses

pub invariant_of-self : goal.invariant_of-self
invariant_of-self g c =
    let s = c.loop-entry.self-inside in
    let tests = lent_conditions s.tests.items in
    let es = lent_conditions s.clauses.items in
    let d = index_of s.def.now in
    ready_behind (IsReadyCover s.beside.cat.now s.beside.range.now s.beside.rel.0 s.given tests es d) s.cursor c.in-Some.entry c.next.new.self c.in-Some.ensures.some c.loop-entry.invariant.0

pub returns-then-pass_entry-2-clause-row : goal.returns-then-pass_entry-2-clause-row
returns-then-pass_entry-2-clause-row g c =
    let s = c.loop-entry.self-inside in
    let tests = lent_conditions s.tests.items in
    let es = lent_conditions s.clauses.items in
    let d = index_of s.def.now in
    ap Some c.tid.ensures ∙ cover_row s.beside.rel.0 s.given tests es d c.in-Some.entry c.next.new.self c.args.self.now c.args.reads.now c.loop-entry.reads c.next.new.steps (onward_split (covered_at s.beside.rel.0 s.given tests es d) s.cursor c.in-Some.entry c.next.new.self c.in-Some.ensures.some c.args.self.now 0 0 c.args.reads.now c.loop-entry.reads c.loop-entry.invariant.1) c.in-Some.ensures.step (ap₂ (λ (a b : Bool). a && b) (sym (c.pass_entry.ensures ∙ ap (λ l. passes_entry s.beside.rel.0 s.given (lent_conditions l) d c.in-Some.entry) c.deref.ensures.value) ∙ c.if-pass_entry.true) (sym (c.pass_entry-then-pass_entry.ensures ∙ ap (λ l. passes_entry s.beside.rel.0 s.given (lent_conditions l) d c.in-Some.entry) c.deref-then-pass_entry.ensures.value) ∙ c.if-pass_entry-2.true))

pub returns-then-pass_entry-2-clause-unfetched : goal.returns-then-pass_entry-2-clause-unfetched
returns-then-pass_entry-2-clause-unfetched g c =
    let s = c.loop-entry.self-inside in
    let i = c.self.inside in
    covered_owed s.beside.rel.0 s.given (lent_conditions s.tests.items) (lent_conditions s.clauses.items) (index_of s.def.now) c.next.new.self
    ∙ sym (ap owed (sym c.self.view_is) ∙ covered_owed i.beside.rel.0 i.given (lent_conditions i.tests.items) (lent_conditions i.clauses.items) (index_of i.def.now) i.cursor)

pub loop-entry-preserved : goal.loop-entry-preserved
loop-entry-preserved g c =
    let s = c.loop-entry.self-inside in
    let tests = lent_conditions s.tests.items in
    let es = lent_conditions s.clauses.items in
    let d = index_of s.def.now in (
      ready_behind (IsReadyCover s.beside.cat.now s.beside.range.now s.beside.rel.0 s.given tests es d) s.cursor c.in-Some.entry c.next.new.self c.in-Some.ensures.some c.loop-entry.invariant.0,
      cover_fails s.beside.rel.0 s.given tests es d c.in-Some.entry c.next.new.self c.args.self.now c.args.reads.now c.loop-entry.reads c.next.new.steps (onward_split (covered_at s.beside.rel.0 s.given tests es d) s.cursor c.in-Some.entry c.next.new.self c.in-Some.ensures.some c.args.self.now 0 0 c.args.reads.now c.loop-entry.reads c.loop-entry.invariant.1) c.in-Some.ensures.step
          (elim c.else-pass_entry.branch [
            | else-pass_entry-via-then-pass_entry+else-pass_entry-2 w ↦ ap₂ (λ (a b : Bool). a && b) (sym (c.pass_entry.ensures ∙ ap (λ l. passes_entry s.beside.rel.0 s.given (lent_conditions l) d c.in-Some.entry) c.deref.ensures.value) ∙ w.if-pass_entry.true) (sym (w.pass_entry-then-pass_entry.ensures ∙ ap (λ l. passes_entry s.beside.rel.0 s.given (lent_conditions l) d c.in-Some.entry) w.deref-then-pass_entry.ensures.value) ∙ w.if-pass_entry-2.false)
            | else-pass_entry-via-else-pass_entry w ↦ ap (λ (b : Bool). b && passes_entry s.beside.rel.0 s.given es d c.in-Some.entry) (sym (c.pass_entry.ensures ∙ ap (λ l. passes_entry s.beside.rel.0 s.given (lent_conditions l) d c.in-Some.entry) c.deref.ensures.value) ∙ w.if-pass_entry.false)
          ]),
    )
