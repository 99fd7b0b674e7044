use Rattle.std.proofs.Common.{◌∙◌}
use Rattle.plan_tree.specs.work.Views.{bits}
use Rattle.scan_probes.specs.work.Filters.{lent_conditions}
use Rattle.scan_exec.proofs.BitsLemmas.{bits_begun, bits_bound, bits_ready}
use Rattle.scan_exec.proofs.TreeLemmas.{tree_held}
use Rattle.scan_exec.proofs.bitmap.bit_rows.Goals as goal

pub hold-requires-clause-tree : goal.hold-requires-clause-tree
hold-requires-clause-tree g c =
    let s = c.args.at.now in
    tree_held s.cat.now s.store.now s.q.now s.rel s.param s.outer.now c.args.given c.requires.scene (bits c.args.tree.now) c.requires.scan.tree

pub start-requires-clause-bound : goal.start-requires-clause-bound
start-requires-clause-bound g c =
    let s = c.args.at.now in
    bits_bound s.cat.now s.store.now s.q.now s.rel s.param s.outer.now c.args.given c.requires.scene
    c.beside-beside.result.cat.now c.beside-beside.result.range.now c.beside-beside.result.rel (lent_conditions c.in_ok-clauses.clauses.items) c.heap-heap.result.now.rows
    c.beside-beside.ensures.cat c.beside-beside.ensures.range c.beside-beside.ensures.rel c.in_ok-clauses.ensures c.heap-heap.ensures.rows
    (bits c.args.tree.now) c.in_ok-held.held c.in_ok-held.ensures.held

pub start-requires-clause-ready : goal.start-requires-clause-ready
start-requires-clause-ready g c =
    let s = c.args.at.now in
    bits_ready s.cat.now s.store.now s.q.now s.rel s.param s.outer.now c.args.given c.requires.scene
    c.beside-beside.result.cat.now c.beside-beside.result.range.now c.beside-beside.result.rel (lent_conditions c.in_ok-clauses.clauses.items) c.heap-heap.result.now.rows
    c.beside-beside.ensures.cat c.beside-beside.ensures.range c.beside-beside.ensures.rel c.in_ok-clauses.ensures c.heap-heap.ensures.rows

pub returns-clause-coming : goal.returns-clause-coming
returns-clause-coming g c =
    let s = c.args.at.now in
    c.start.ensures
    ∙ bits_begun s.cat.now s.store.now s.q.now s.rel s.param s.outer.now c.args.given c.requires.scene
    c.beside-beside.result.cat.now c.beside-beside.result.range.now c.beside-beside.result.rel (lent_conditions c.in_ok-clauses.clauses.items) c.heap-heap.result.now.rows
    c.beside-beside.ensures.cat c.beside-beside.ensures.range c.beside-beside.ensures.rel c.in_ok-clauses.ensures c.heap-heap.ensures.rows
    (bits c.args.tree.now) c.in_ok-held.held c.in_ok-held.ensures.held
