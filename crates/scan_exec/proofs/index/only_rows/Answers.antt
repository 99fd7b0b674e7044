use Rattle.std.proofs.Common.{List, ap, filter, sym, subst, ◌∙◌}
use Rattle.btree_index.specs.work.Tree.{in_direction}
use Rattle.catalog.specs.Contents.{index_at}
use Rattle.catalog.specs.work.Entries.{index_of}
use Rattle.pg_expr.specs.Cond.{Cond}
use Rattle.scan_probes.specs.work.Filters.{lent_conditions}
use Rattle.sql_query.specs.Meaning.{all_true}
use Rattle.sql_query.specs.Tuples.{beside}
use Rattle.plan_tree.specs.Entries.{entries}
use Rattle.scan_exec.specs.work.Scene.{AreUsed, limits, tuple_of, world_of}
use Rattle.scan_exec.proofs.BegunLemmas.{only_begins, only_begun}
use Rattle.scan_exec.proofs.NearLemmas.{all_used}
use Rattle.scan_exec.proofs.index.only_rows.Goals as goal

pub seek-requires-clause-conditions : goal.seek-requires-clause-conditions
seek-requires-clause-conditions g c =
    let s = c.args.at.now in
    subst (AreUsed s.cat.now s.q.now s.rel s.param c.args.i) (sym (ap lent_conditions c.deref.ensures.value ∙ c.in_ok-conditions.ensures))
    (all_used s.cat.now s.store.now s.q.now s.rel s.param s.outer.now c.args.given c.requires.scene c.args.i)

pub start-requires : goal.start-requires
start-requires g c =
    let s = c.args.at.now in
    only_begins s.cat.now s.store.now s.q.now s.rel s.param s.outer.now c.args.given c.requires.scene c.args.i c.requires.scan.scan.index c.index-def.ensures.lawful c.requires.scan.columns
    c.beside-beside.result.cat.now c.beside-beside.result.range.now c.beside-beside.result.rel (lent_conditions c.in_ok-clauses.clauses.items) (lent_conditions c.in_ok-conditions.conditions.items) (index_of c.index-def.result.now)
    c.beside-beside.ensures.cat c.beside-beside.ensures.range c.beside-beside.ensures.rel c.in_ok-clauses.ensures c.in_ok-conditions.ensures c.index-def.ensures.value
    c.args.backward c.in_ok-cursor.cursor
    (c.in_ok-cursor.ensures ∙ ap (λ (l : List Cond). in_direction c.args.backward (filter (λ e. all_true (world_of s) s.q.now (beside s.q.now s.rel.0 e.row (tuple_of s)) (limits (index_at s.cat.now c.args.i) s.rel.0 l)) (entries (world_of s) c.args.i))) (ap lent_conditions c.deref.ensures.value ∙ c.in_ok-conditions.ensures))

pub returns : goal.returns
returns g c =
    let s = c.args.at.now in
    c.start.ensures
    ∙ only_begun s.cat.now s.store.now s.q.now s.rel s.param s.outer.now c.args.given c.requires.scene c.args.i c.requires.scan.scan.index c.index-def.ensures.lawful c.requires.scan.columns
    c.beside-beside.result.cat.now c.beside-beside.result.range.now c.beside-beside.result.rel (lent_conditions c.in_ok-clauses.clauses.items) (lent_conditions c.in_ok-conditions.conditions.items) (index_of c.index-def.result.now)
    c.beside-beside.ensures.cat c.beside-beside.ensures.range c.beside-beside.ensures.rel c.in_ok-clauses.ensures c.in_ok-conditions.ensures c.index-def.ensures.value
    c.args.backward c.in_ok-cursor.cursor
    (c.in_ok-cursor.ensures ∙ ap (λ (l : List Cond). in_direction c.args.backward (filter (λ e. all_true (world_of s) s.q.now (beside s.q.now s.rel.0 e.row (tuple_of s)) (limits (index_at s.cat.now c.args.i) s.rel.0 l)) (entries (world_of s) c.args.i))) (ap lent_conditions c.deref.ensures.value ∙ c.in_ok-conditions.ensures))
