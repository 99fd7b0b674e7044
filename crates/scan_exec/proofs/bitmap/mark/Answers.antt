use Rattle.std.proofs.Common.{ap, sym, ◌∙◌}
use Rattle.catalog.specs.Contents.{index_at}
use Rattle.sql_query.specs.Tuples.{rows_of_relation}
use Rattle.store.specs.work.View.{built}
use Rattle.scan_exec.specs.work.Scene.{world_of}
use Rattle.scan_exec.proofs.EqualLemmas.{is_hashed}
use Rattle.scan_exec.proofs.MarkLemmas.{takes_one}
use Rattle.scan_exec.proofs.SeekLemmas.{built_is, is_btree}
use Rattle.scan_exec.proofs.bitmap.mark.Goals as goal

pub mark_sorted-requires-clause-ordered : goal.mark_sorted-requires-clause-ordered
mark_sorted-requires-clause-ordered g c =
    let s = c.args.at.now in
    is_btree (index_at s.cat.now c.args.i) (rows_of_relation (world_of s) s.q.now s.rel) c.in-Sorted.field-0
    (ap built (sym c.in-Sorted.is) ∙ built_is s.cat.now s.store.now s.q.now s.rel s.param s.outer.now c.args.given.now c.requires.scene c.args.i c.requires.index (built c.index.result.now) c.index.ensures)

pub mark_hashed-requires-clause-table : goal.mark_hashed-requires-clause-table
mark_hashed-requires-clause-table g c =
    let s = c.args.at.now in
    ap built (sym c.in-Hashed.is) ∙ built_is s.cat.now s.store.now s.q.now s.rel s.param s.outer.now c.args.given.now c.requires.scene c.args.i c.requires.index (built c.index.result.now) c.index.ensures

pub mark_hashed-requires-clause-one : goal.mark_hashed-requires-clause-one
mark_hashed-requires-clause-one g c =
    let s = c.args.at.now in
    takes_one (index_at s.cat.now c.args.i).method
    (is_hashed (index_at s.cat.now c.args.i) (rows_of_relation (world_of s) s.q.now s.rel) c.in-Hashed.index
    (ap built (sym c.in-Hashed.is) ∙ built_is s.cat.now s.store.now s.q.now s.rel s.param s.outer.now c.args.given.now c.requires.scene c.args.i c.requires.index (built c.index.result.now) c.index.ensures))
    _ c.requires.takes
