use Rattle.std.proofs.Common.{Bool, ap, map, sym, ◌∙◌}
use Rattle.catalog.specs.Contents.{index_at}
use Rattle.opfamily.specs.declared.classes.Method.{Method}
use Rattle.sql_query.specs.Tuples.{rows_of_relation}
use Rattle.plan_tree.specs.Run.{clauses_at, in_scan_direction, met}
use Rattle.store.specs.work.View.{built}
use Rattle.scan_exec.specs.Coming.{fetched_row, index_coming}
use Rattle.scan_exec.specs.work.Scene.{tuple_of, world_of}
use Rattle.scan_exec.proofs.EqualLemmas.{forward, is_hashed}
use Rattle.scan_exec.proofs.SeekLemmas.{built_is, is_btree}
use Rattle.scan_exec.proofs.rows.by_index.Goals as goal

pub returns-in_ok-rows-in-Sorted : goal.returns-in_ok-rows-in-Sorted
returns-in_ok-rows-in-Sorted g c =
    let s = c.args.at.now in
    c.in_ok-rows-in-Sorted.ensures
    ∙ sym (ap (λ (m : Method). index_coming (world_of s) s.q.now m s.rel c.args.i c.args.backward s.param (tuple_of s))
    (is_btree (index_at s.cat.now c.args.i) (rows_of_relation (world_of s) s.q.now s.rel) c.in-Sorted.tree
    (ap built (sym c.in-Sorted.is) ∙ built_is s.cat.now s.store.now s.q.now s.rel s.param s.outer.now c.args.given c.requires.scene c.args.i c.requires.scan.index (built c.index.result.now) c.index.ensures)))

pub returns-in_ok-rows-in-Hashed : goal.returns-in_ok-rows-in-Hashed
returns-in_ok-rows-in-Hashed g c =
    let s = c.args.at.now in
    let hash = is_hashed (index_at s.cat.now c.args.i) (rows_of_relation (world_of s) s.q.now s.rel) c.in-Hashed.index
    (ap built (sym c.in-Hashed.is) ∙ built_is s.cat.now s.store.now s.q.now s.rel s.param s.outer.now c.args.given c.requires.scene c.args.i c.requires.scan.index (built c.index.result.now) c.index.ensures) in
    c.in_ok-rows-in-Hashed.ensures
    ∙ sym (ap (λ (b : Bool). map (fetched_row (world_of s) s.q.now s.rel (tuple_of s) (clauses_at (world_of s) s.q.now s.rel s.param)) (in_scan_direction (world_of s) s.q.now b (met (world_of s) s.q.now s.rel c.args.i s.param (tuple_of s))))
    (forward (index_at s.cat.now c.args.i).method hash c.args.backward s.param c.requires.scan.direction))
    ∙ sym (ap (λ (m : Method). index_coming (world_of s) s.q.now m s.rel c.args.i c.args.backward s.param (tuple_of s)) hash)
