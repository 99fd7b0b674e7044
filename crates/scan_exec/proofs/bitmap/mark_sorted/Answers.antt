use Rattle.catalog.specs.work.Entries.{index_of}
use Rattle.scan_probes.specs.work.Filters.{lent_conditions}
use Rattle.scan_exec.proofs.MarkLemmas.{mark_looks, marked, marks_ready}
use Rattle.scan_exec.proofs.bitmap.mark_sorted.Goals as goal

pub mark_entries-requires-clause-ready : goal.mark_entries-requires-clause-ready
mark_entries-requires-clause-ready g c =
    let s = c.args.at.now in
    marks_ready s.cat.now s.store.now s.q.now s.rel s.param s.outer.now c.args.given.now c.requires.scene c.args.i c.requires.index c.index-def.ensures.lawful (lent_conditions c.args.conditions.now) c.requires.used
    c.beside-beside.result.cat.now c.beside-beside.result.range.now c.beside-beside.result.rel (index_of c.index-def.result.now) c.beside-beside.ensures.cat c.beside-beside.ensures.range c.beside-beside.ensures.rel c.index-def.ensures.value
    c.in_ok-cursor.cursor c.in_ok-cursor.ensures c.args.held.now c.requires.bound

pub returns-clause-held : goal.returns-clause-held
returns-clause-held g c =
    let s = c.args.at.now in
    marked s.cat.now s.store.now s.q.now s.rel s.param s.outer.now c.args.given.now c.requires.scene c.args.i c.requires.index c.index-def.ensures.lawful (lent_conditions c.args.conditions.now) c.requires.used
    c.beside-beside.result.cat.now c.beside-beside.result.range.now c.beside-beside.result.rel (index_of c.index-def.result.now) c.beside-beside.ensures.cat c.beside-beside.ensures.range c.beside-beside.ensures.rel c.index-def.ensures.value
    c.in_ok-cursor.cursor c.in_ok-cursor.ensures c.args.held.now c.requires.bound
    c.mark_entries.new.held c.mark_entries.ensures.held

pub returns-clause-most : goal.returns-clause-most
returns-clause-most g c =
    let s = c.args.at.now in
    mark_looks s.cat.now s.store.now s.q.now s.rel s.param s.outer.now c.args.given.now c.requires.scene c.args.i c.requires.index c.index-def.ensures.lawful (lent_conditions c.args.conditions.now) c.requires.used
    c.beside-beside.result.cat.now c.beside-beside.result.range.now c.beside-beside.result.rel (index_of c.index-def.result.now) c.beside-beside.ensures.cat c.beside-beside.ensures.range c.beside-beside.ensures.rel c.index-def.ensures.value
    c.in_ok-cursor.cursor c.in_ok-cursor.ensures c.args.held.now c.requires.bound
    c.requires.ordered c.args.reads.now c.mark_entries.new.reads c.mark_entries.ensures.looks
