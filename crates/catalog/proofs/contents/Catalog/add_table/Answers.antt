use Rattle.std.proofs.Common.{◌<◌, ◌≤◌, ◌∙◌, ap, arith, length, subst, sym}
use Rattle.pg_base.specs.declared.limits.TheConstants.{MOST_COLUMNS}
use Rattle.catalog.specs.Contents.{Contents, IsLawfulTable, new_table, with_table}
use Rattle.catalog.specs.work.Entries.{contents_of}
use Rattle.catalog.specs.Tables.{IsAcceptable, IsUnused}
use Rattle.catalog.proofs.NamedLemmas.{new-lawful}
use Rattle.catalog.proofs.WriteLemmas.{table-added, table-kept}
use Rattle.catalog.proofs.contents.Catalog.add_table.Goals as goal

pub invariant_of-self-2 : goal.invariant_of-self-2
invariant_of-self-2 c =
    let es = c.self.inside.tables.entries in
    let is = c.self.inside.indexes.entries in
    let named = c.in_ok-key.ensures.items ∙ c.items-2.ensures in
    let told = subst (λ n. IsAcceptable c.args.self.now n c.deref.result.now) c.items.ensures c.in_ok-judge_table.ensures.accepted in
    let both = subst (IsAcceptable c.args.self.now c.args.name) c.deref.ensures.value told in
    let a = subst (λ (l : Contents). IsAcceptable l c.args.name c.args.names.items) (sym c.self.view_is) both in
    let free = subst (IsUnused (contents_of es is)) (sym named) a.free in
    let def = c.in_ok-table.ensures.table c.in_ok-key.key ∙ ap (λ n. new_table n c.deref-2.result.now c.args.columns) named ∙ ap (λ l. new_table c.args.name l c.args.columns) c.deref-2.ensures.value in
    let some : 0 < length c.args.columns = c.in_ok-table.ensures.width.0 in
    let few : length c.args.columns ≤ MOST_COLUMNS = omega (arith, c.in_ok-table.ensures.width.1) in
    let lawful = new-lawful c.args.name c.args.names.items c.args.columns c.requires.name c.requires.names a.distinct c.requires.width some few in
    table-kept es c.put.new.map.entries is c.in_ok-key.key c.in_ok-table.table c.in_ok-put.ensures.entries free (subst IsLawfulTable (sym def) lawful) a.room c.in_ok-table.ensures.listed c.self.invariant

pub returns-clause-added : goal.returns-clause-added
returns-clause-added c =
    let es = c.self.inside.tables.entries in
    let is = c.self.inside.indexes.entries in
    let named = c.in_ok-key.ensures.items ∙ c.items-2.ensures in
    let told = subst (λ n. IsAcceptable c.args.self.now n c.deref.result.now) c.items.ensures c.in_ok-judge_table.ensures.accepted in
    let a = subst (λ (l : Contents). IsAcceptable l c.args.name c.deref.result.now) (sym c.self.view_is) told in
    let free = subst (IsUnused (contents_of es is)) (sym named) a.free in
    let def = c.in_ok-table.ensures.table c.in_ok-key.key ∙ ap (λ n. new_table n c.deref-2.result.now c.args.columns) named ∙ ap (λ l. new_table c.args.name l c.args.columns) c.deref-2.ensures.value in
    table-added es c.put.new.map.entries is c.in_ok-key.key c.in_ok-table.table c.in_ok-put.ensures.entries free
    ∙ ap (with_table (contents_of es is)) def
    ∙ ap (λ (l : Contents). with_table l (new_table c.args.name c.args.names.items c.args.columns)) c.self.view_is
