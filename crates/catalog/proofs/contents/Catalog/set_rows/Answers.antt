use Rattle.std.proofs.Common.{◌∙◌, refl, sym, ap, Some}
use Rattle.catalog.specs.Contents.{Contents, TableDef, no_table, with_sizes}
use Rattle.catalog.proofs.WriteLemmas.{is_table, kept, written}
use Rattle.catalog.proofs.contents.Catalog.set_rows.Goals as goal

pub invariant_of-self : goal.invariant_of-self
invariant_of-self c =
    let es = c.self.inside.tables.entries in
    let is = c.self.inside.indexes.entries in
    let lt = is_table es is c.args.self.now c.args.t c.self.view_is c.requires in
    let was = c.self.invariant.0.tables c.args.t.0 no_table lt in
    kept es is c.args.t c.index_mut.result.now (record c.index_mut.result.now { sizes = Some (record { rows = c.args.rows; pages = c.args.pages }) }) c.index_mut.ensures.value
    (λ (d : TableDef). record d { sizes = Some (record { rows = c.args.rows; pages = c.args.pages }) }) (λ n. refl) lt refl refl
    (record { name = was.name; names = was.names; distinct = was.distinct; width = was.width; some = was.some; few = was.few; sizes = record { rows = sym c.if-not-is_count.ensures; pages = sym c.if-not-is_count-2.ensures }; stats = was.stats }) refl c.self.invariant

pub returns-clause-kept : goal.returns-clause-kept
returns-clause-kept c =
    written c.self.inside.tables.entries c.self.inside.indexes.entries c.args.t c.index_mut.result.now (record c.index_mut.result.now { sizes = Some (record { rows = c.args.rows; pages = c.args.pages }) }) c.index_mut.ensures.value
    (λ (d : TableDef). record d { sizes = Some (record { rows = c.args.rows; pages = c.args.pages }) }) (λ n. refl)
    ∙ ap (λ (l : Contents). with_sizes l c.args.t c.args.rows c.args.pages) c.self.view_is
