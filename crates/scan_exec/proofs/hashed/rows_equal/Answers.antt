use Rattle.std.proofs.Common.{◌∙◌, ap}
use Rattle.catalog.specs.Contents.{index_at}
use Rattle.catalog.specs.Indexes.{Index}
use Rattle.pg_expr.specs.work.View.{cond}
use Rattle.sql_query.specs.Tuples.{rows_of_relation}
use Rattle.scan_exec.specs.work.Scene.{world_of}
use Rattle.scan_exec.proofs.EqualLemmas.{first_of, form_of, is_hashed, table_rows, value_fits_table, value_known}
use Rattle.scan_exec.proofs.hashed.rows_equal.Goals as goal

pub equal_value-requires-clause-form : goal.equal_value-requires-clause-form
equal_value-requires-clause-form g c =
    let s = c.args.at.now in
    form_of s.cat.now s.store.now s.q.now s.rel s.param s.outer.now c.args.given.now c.requires.scene c.args.i c.requires.index c.index-def.ensures.lawful (cond c.args.condition.now) c.requires.used
    (is_hashed (index_at s.cat.now c.args.i) (rows_of_relation (world_of s) s.q.now s.rel) c.args.index.now c.requires.table)
    c.index.result.now c.index-def.result.now.keys.items (ap (λ (d : Index). d.keys) c.index-def.ensures.value) c.index.ensures

pub equal_value-requires-clause-known : goal.equal_value-requires-clause-known
equal_value-requires-clause-known g c =
    let s = c.args.at.now in
    value_known s.cat.now s.store.now s.q.now s.rel s.param s.outer.now c.args.given.now c.requires.scene c.args.i c.requires.index c.index-def.ensures.lawful (cond c.args.condition.now) c.requires.used

pub matches-requires : goal.matches-requires
matches-requires g c =
    let s = c.args.at.now in
    let hash = is_hashed (index_at s.cat.now c.args.i) (rows_of_relation (world_of s) s.q.now s.rel) c.args.index.now c.requires.table in
    value_fits_table s.cat.now s.store.now s.q.now s.rel s.param s.outer.now c.args.given.now c.requires.scene c.args.i c.requires.index c.index-def.ensures.lawful (cond c.args.condition.now) c.requires.used hash
    c.args.index.now c.requires.table c.in_ok-value.value c.index.result.now
    (first_of s.cat.now s.store.now s.q.now s.rel s.param s.outer.now c.args.given.now c.requires.scene c.args.i c.requires.index c.index-def.ensures.lawful (cond c.args.condition.now) c.requires.used hash
    c.index.result.now c.index-def.result.now.keys.items (ap (λ (d : Index). d.keys) c.index-def.ensures.value) c.index.ensures)
    c.in_ok-value.ensures

pub returns : goal.returns
returns g c =
    let s = c.args.at.now in
    let hash = is_hashed (index_at s.cat.now c.args.i) (rows_of_relation (world_of s) s.q.now s.rel) c.args.index.now c.requires.table in
    c.matches.ensures.rows
    ∙ table_rows s.cat.now s.store.now s.q.now s.rel s.param s.outer.now c.args.given.now c.requires.scene c.args.i c.requires.index c.index-def.ensures.lawful (cond c.args.condition.now) c.requires.used hash
    c.args.index.now c.requires.table c.in_ok-value.value c.index.result.now
    (first_of s.cat.now s.store.now s.q.now s.rel s.param s.outer.now c.args.given.now c.requires.scene c.args.i c.requires.index c.index-def.ensures.lawful (cond c.args.condition.now) c.requires.used hash
    c.index.result.now c.index-def.result.now.keys.items (ap (λ (d : Index). d.keys) c.index-def.ensures.value) c.index.ensures)
    c.in_ok-value.ensures
