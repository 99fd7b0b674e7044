use Rattle.std.proofs.Common.{List, subst}
use Rattle.std.proofs.lemmas.Result.{err_from_is_err_and}
use Rattle.pg_value.specs.declared.columns.Column.{Column}
use Rattle.heap.specs.work.Loading.{NamesColumnOf}
use Rattle.store.specs.work.Kept.{stored_of}
use Rattle.store.proofs.TableLemmas.{columns-are, filled, loaded-store, looks-are, still-there}
use Rattle.store.proofs.tables.fill.Goals as goal

pub returns-in_err-load-clause-field : goal.returns-in_err-load-clause-field
returns-in_err-load-clause-field g c =
    let p = err_from_is_err_and c.from_residual.result c.from_residual.ensures.1 in
    let same = columns-are c.args.catalog.now c.args.store.now c.requires.store c.args.table c.requires.table in
    rw (p.1, p.2) (subst (λ (columns : List Column). NamesColumnOf columns c.in_err-load.field-0.0) same c.in_err-load.ensures.field)

pub heap-requires : goal.heap-requires
heap-requires g c = still-there c.args.catalog.now c.args.store.now c.requires.store c.args.table c.requires.table c.load.new.self c.load.ensures.others

pub returns-clause-filled : goal.returns-clause-filled
returns-clause-filled g c =
    let cat = c.args.catalog.now in
    let k = c.args.store.now in
    let t = c.args.table in
    let new = c.load.new.self in (
      stored_of new t,
      c.in_ok-load.ensures.rows,
      filled cat k c.requires.store t c.requires.table new c.load.ensures.others c.heap.result.now c.heap.ensures c.len-rows.result c.len-rows.ensures.len c.set_loaded.new.self c.set_loaded.ensures,
      looks-are cat t (stored_of k t) (stored_of new t) _ _ _ c.in_ok-load.ensures.count c.in_ok-load.ensures.looks,
    )

pub returns-clause-store : goal.returns-clause-store
returns-clause-store g c =
    loaded-store c.args.catalog.now c.args.store.now c.requires.store c.args.table c.requires.table c.load.new.self c.load.ensures.others
    c.heap.result.now c.heap.ensures c.len-rows.result c.len-rows.ensures.len c.set_loaded.new.self c.set_loaded.ensures c.in_ok-load.ensures.store
