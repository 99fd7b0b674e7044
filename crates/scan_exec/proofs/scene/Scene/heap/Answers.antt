use Rattle.std.proofs.Common.{◌∙◌, ap}
use Rattle.heap.specs.Stored.{Stored}
use Rattle.scan_probes.proofs.GivenLemmas.{heap_is, is_heap}
use Rattle.scan_exec.proofs.NearLemmas.{over}
use Rattle.scan_exec.proofs.scene.Scene.heap.Goals as goal

pub heap-heap-requires : goal.heap-heap-requires
heap-heap-requires g c =
    let s = c.args.self.now in
    is_heap s.cat.now s.store.now.stored s.q.now (over s.cat.now s.store.now s.q.now s.rel s.param s.outer.now c.requires.0 c.requires.1)
    c.items-range.result.now s.rel.0 c.index-range-r.result (c.items-range.ensures ∙ c.range_of.ensures) c.requires.1.relation c.index-range-r.is

pub returns-clause-rows : goal.returns-clause-rows
returns-clause-rows g c =
    let s = c.args.self.now in
    ap (λ (x : Stored). x.rows)
    (heap_is s.cat.now s.store.now.stored s.q.now (over s.cat.now s.store.now s.q.now s.rel s.param s.outer.now c.requires.0 c.requires.1)
    c.items-range.result.now s.rel.0 c.index-range-r.result c.heap-heap.result.now (c.items-range.ensures ∙ c.range_of.ensures) c.requires.1.relation c.index-range-r.is c.heap-heap.ensures)
