use Rattle.std.proofs.Common.{◌∙◌, ap, map, subst, sym}
use Rattle.catalog.specs.Contents.{Contents, IsLawful, indexes_of, no_table, table_at}
use Rattle.catalog.specs.work.Entries.{named_index, table_def}
use Rattle.catalog.proofs.EntryLemmas.{def-at}
use Rattle.catalog.proofs.WriteLemmas.{listed-entry}
use Rattle.catalog.proofs.contents.Catalog.entry.Goals as goal

pub returns-clause-entry : goal.returns-clause-entry
returns-clause-entry c =
    let at = rw c.unwrap.ensures at (sym c.get_index.ensures.entry) in
    def-at table_def c.self.inside.tables.entries c.args.t.0 (c.unwrap.result.0.now, c.unwrap.result.1.now) no_table at
    ∙ ap (λ (l : Contents). table_at l c.args.t) c.self.view_is

pub returns-clause-listed : goal.returns-clause-listed
returns-clause-listed c =
    let at = rw c.unwrap.ensures at (sym c.get_index.ensures.entry) in
    listed-entry (map named_index c.self.inside.indexes.entries) c.self.inside.tables.entries c.args.t (c.unwrap.result.0.now, c.unwrap.result.1.now) c.self.invariant.1 at
    ∙ ap (λ (l : Contents). indexes_of l c.args.t) c.self.view_is

pub returns-clause-lawful : goal.returns-clause-lawful
returns-clause-lawful c = (subst IsLawful c.self.view_is c.self.invariant.0).tables c.args.t.0 no_table c.requires
