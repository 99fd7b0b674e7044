use Rattle.std.proofs.Common.{[], ◌∷◌, ◌∙◌, map}
use Rattle.catalog.specs.Contents.{index_at}
use Rattle.pg_expr.specs.work.View.{cond}
use Rattle.scan_probes.specs.work.Filters.{lent_conditions}
use Rattle.sql_query.specs.Tuples.{rows_of_relation}
use Rattle.scan_exec.specs.work.Scene.{world_of}
use Rattle.scan_exec.proofs.EqualLemmas.{first_in, hash_begins, hash_begun, hash_condition, is_hashed}
use Rattle.scan_exec.proofs.NearLemmas.{used}
use Rattle.scan_exec.proofs.hashed.hash_rows.Goals as goal

pub rows_equal-requires-clause-used : goal.rows_equal-requires-clause-used
rows_equal-requires-clause-used g c =
    let s = c.args.at.now in
    let hash = is_hashed (index_at s.cat.now c.args.i) (rows_of_relation (world_of s) s.q.now s.rel) c.args.index.now c.requires.table in
    used s.cat.now s.store.now s.q.now s.rel s.param s.outer.now c.args.given c.requires.scene c.args.i (cond c.index.result.now.now)
    (first_in (cond c.index.result.now.now) _ (hash_condition (world_of s) s.q.now s.rel c.args.i s.param hash c.requires.condition c.in_ok-conditions.conditions.items c.index.result.now c.in_ok-conditions.ensures c.index.ensures))

pub start-requires : goal.start-requires
start-requires g c =
    let s = c.args.at.now in
    hash_begins s.cat.now s.store.now s.q.now s.rel s.param s.outer.now c.args.given c.requires.scene c.args.i c.requires.index
    c.beside-beside.result.cat.now c.beside-beside.result.range.now c.beside-beside.result.rel (lent_conditions c.in_ok-clauses.clauses.items) c.heap-heap.result.now.rows
    c.beside-beside.ensures.cat c.beside-beside.ensures.range c.beside-beside.ensures.rel c.in_ok-clauses.ensures c.heap-heap.ensures.rows
    (map (λ t. t.0) c.in_ok-tids.tids.now) (cond c.index.result.now.now ∷ []) c.in_ok-tids.ensures

pub returns : goal.returns
returns g c =
    let s = c.args.at.now in
    let hash = is_hashed (index_at s.cat.now c.args.i) (rows_of_relation (world_of s) s.q.now s.rel) c.args.index.now c.requires.table in
    c.start.ensures
    ∙ hash_begun s.cat.now s.store.now s.q.now s.rel s.param s.outer.now c.args.given c.requires.scene c.args.i c.requires.index
    c.beside-beside.result.cat.now c.beside-beside.result.range.now c.beside-beside.result.rel (lent_conditions c.in_ok-clauses.clauses.items) c.heap-heap.result.now.rows
    c.beside-beside.ensures.cat c.beside-beside.ensures.range c.beside-beside.ensures.rel c.in_ok-clauses.ensures c.heap-heap.ensures.rows
    (map (λ t. t.0) c.in_ok-tids.tids.now) (cond c.index.result.now.now ∷ []) c.in_ok-tids.ensures
    (hash_condition (world_of s) s.q.now s.rel c.args.i s.param hash c.requires.condition c.in_ok-conditions.conditions.items c.index.result.now c.in_ok-conditions.ensures c.index.ensures)
