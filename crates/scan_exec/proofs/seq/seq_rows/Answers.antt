use Rattle.std.proofs.Common.{◌≡◌, ◌∙◌, All}
use Rattle.index_match.specs.Numbered.{base, conditions_of}
use Rattle.scan_probes.specs.work.Scenes.{AreReadyAtRow}
use Rattle.sql_query.specs.Tuples.{rows_of_relation}
use Rattle.plan_tree.specs.Plans.{seq}
use Rattle.scan_exec.specs.Coming.{coming}
use Rattle.scan_exec.specs.work.Kinds.{rows_from}
use Rattle.scan_exec.specs.work.Scene.{tuple_of, world_of}
use Rattle.scan_exec.proofs.BegunLemmas.{seq_ready, seq_rows_are}
use Rattle.scan_exec.proofs.MovedLemmas.{moved}
use Rattle.scan_exec.proofs.seq.seq_rows.Goals as goal

pub start-requires : goal.start-requires
start-requires g c =
    let s = c.args.at.now in
    moved (λ a b e f h. All (AreReadyAtRow a b e.0 c.args.given f) h) s.cat.now _ s.q.now.range _ s.rel _ (conditions_of (base s.q.now.classes s.rel.0)) _ (rows_of_relation (world_of s) s.q.now s.rel) _
    c.beside-beside.ensures.cat c.beside-beside.ensures.range c.beside-beside.ensures.rel c.in_ok-clauses.ensures c.heap-heap.ensures.rows
    (seq_ready s.cat.now s.store.now s.q.now s.rel s.param s.outer.now c.args.given c.requires)

pub returns : goal.returns
returns g c =
    let s = c.args.at.now in
    moved (λ a b e f h. c.start.result ≡ rows_from e.0 c.args.given f h 0 → c.start.result ≡ coming (world_of s) s.q.now (seq s.rel) (tuple_of s)) s.cat.now _ s.q.now.range _ s.rel _ (conditions_of (base s.q.now.classes s.rel.0)) _ (rows_of_relation (world_of s) s.q.now s.rel) _
    c.beside-beside.ensures.cat c.beside-beside.ensures.range c.beside-beside.ensures.rel c.in_ok-clauses.ensures c.heap-heap.ensures.rows
    (λ is. is ∙ seq_rows_are s.cat.now s.store.now s.q.now s.rel s.param s.outer.now c.args.given c.requires)
    c.start.ensures
