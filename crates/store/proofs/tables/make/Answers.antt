use Rattle.std.proofs.Common.{rules, ◌≡◌, [], sym, subst}
use Rattle.catalog.specs.Contents.{Contents, indexes_of, new_table, with_table}
use Rattle.store.specs.work.Kept.{IsStoreOf, with_heap}
use Rattle.store.proofs.LawLemmas.{table-added}
use Rattle.store.proofs.TableLemmas.{bare}
use Rattle.store.proofs.tables.make.Goals as goal

pub take_back_table-requires-clause-bare : goal.take_back_table-requires-clause-bare
take_back_table-requires-clause-bare g c =
    let d = new_table c.args.name c.args.names.items c.args.columns in
    subst (λ (x : Contents). indexes_of x c.in_ok-table.table ≡ []) (sym c.in_ok-table.ensures.added) (bare c.args.catalog.now d c.in_ok-table.table c.lawful.ensures c.in_ok-table.ensures.number)

pub returns-clause-store : goal.returns-clause-store
returns-clause-store g c =
    let added : c.add_heap.new.self ≡ with_heap c.args.store.now (record { columns = c.args.columns; rows = [] }) = search rules in
    subst (λ (x : Contents). IsStoreOf x c.add_heap.new.self) (sym c.in_ok-table.ensures.added)
    (subst (IsStoreOf (with_table c.args.catalog.now (new_table c.args.name c.args.names.items c.args.columns))) (sym added)
    (table-added c.args.catalog.now c.args.store.now c.args.name c.args.names.items c.args.columns c.lawful.ensures c.requires.store))
