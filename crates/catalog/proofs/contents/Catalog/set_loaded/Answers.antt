use Rattle.std.proofs.Common.{◌∙◌, refl, ap}
use Rattle.catalog.specs.Contents.{Contents, TableDef, no_table, with_loaded}
use Rattle.catalog.proofs.WriteLemmas.{is_table, kept, written}
use Rattle.catalog.proofs.contents.Catalog.set_loaded.Goals as goal

pub invariant_of-self : goal.invariant_of-self
invariant_of-self c =
    let es = c.self.inside.tables.entries in
    let is = c.self.inside.indexes.entries in
    let lt = is_table es is c.args.self.now c.args.t c.self.view_is c.requires in
    let was = c.self.invariant.0.tables c.args.t.0 no_table lt in
    kept es is c.args.t c.index_mut.result.now (record c.index_mut.result.now { loaded = c.args.rows }) c.index_mut.ensures.value (λ (d : TableDef). record d { loaded = c.args.rows }) (λ n. refl) lt refl refl
    (record { name = was.name; names = was.names; distinct = was.distinct; width = was.width; some = was.some; few = was.few; sizes = was.sizes; stats = was.stats }) refl c.self.invariant

pub returns : goal.returns
returns c =
    written c.self.inside.tables.entries c.self.inside.indexes.entries c.args.t c.index_mut.result.now (record c.index_mut.result.now { loaded = c.args.rows }) c.index_mut.ensures.value (λ (d : TableDef). record d { loaded = c.args.rows }) (λ n. refl)
    ∙ ap (λ (l : Contents). with_loaded l c.args.t c.args.rows) c.self.view_is
