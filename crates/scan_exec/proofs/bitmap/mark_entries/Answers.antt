use Rattle.std.proofs.Common.{ap, sym, ◌∙◌}
use Rattle.catalog.specs.work.Entries.{index_of}
use Rattle.scan_probes.specs.work.Filters.{lent_conditions}
use Rattle.scan_exec.proofs.HeldLemmas.{added, entry_fails, entry_passes, first_ready}
use Rattle.scan_exec.proofs.bitmap.mark_entries.Goals as goal

pub pass_entry-requires : goal.pass_entry-requires
pass_entry-requires g c =
    let b = c.args.tests.now.beside.now in
    (first_ready b.cat.now b.range.now b.rel.0 c.args.tests.now.given.now (lent_conditions c.args.tests.now.conditions.now) (index_of c.args.tests.now.def.now) c.args.held.now c.loop-entry.held c.args.cursor c.loop-entry.left c.next.new.self c.args.reads.now c.loop-entry.reads c.next.new.steps
    c.loop-entry.invariant c.in-Some.entry c.in-Some.ensures.some c.in-Some.ensures.step).entry

pub loop-entry-preserved-then-pass_entry : goal.loop-entry-preserved-then-pass_entry
loop-entry-preserved-then-pass_entry g c =
    let b = c.args.tests.now.beside.now in
    entry_passes b.cat.now b.range.now b.rel.0 c.args.tests.now.given.now (lent_conditions c.args.tests.now.conditions.now) (index_of c.args.tests.now.def.now) c.args.held.now c.loop-entry.held c.args.cursor c.loop-entry.left c.next.new.self c.args.reads.now c.loop-entry.reads c.next.new.steps
    c.loop-entry.invariant c.in-Some.entry c.in-Some.ensures.some c.in-Some.ensures.step (sym c.pass_entry.ensures ∙ c.if-pass_entry.true) c.add.new.self (c.add.ensures ∙ ap (added c.loop-entry.held) c.tid.ensures)

pub loop-entry-preserved : goal.loop-entry-preserved
loop-entry-preserved g c =
    let b = c.args.tests.now.beside.now in
    entry_fails b.cat.now b.range.now b.rel.0 c.args.tests.now.given.now (lent_conditions c.args.tests.now.conditions.now) (index_of c.args.tests.now.def.now) c.args.held.now c.loop-entry.held c.args.cursor c.loop-entry.left c.next.new.self c.args.reads.now c.loop-entry.reads c.next.new.steps
    c.loop-entry.invariant c.in-Some.entry c.in-Some.ensures.some c.in-Some.ensures.step (sym c.pass_entry.ensures ∙ c.if-pass_entry.false)
