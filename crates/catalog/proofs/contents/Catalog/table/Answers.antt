use Rattle.std.proofs.Common.{sym}
use Rattle.catalog.specs.Contents.{no_table, table_names}
use Rattle.catalog.proofs.EntryLemmas.{named-at, not_found}
use Rattle.catalog.proofs.contents.Catalog.table.Goals as goal

pub returns-in-Some-clause-meaning : goal.returns-in-Some-clause-meaning
returns-in-Some-clause-meaning c = named-at (λ d. d.name) c.args.self.now.tables c.args.name.now c.in-Some.place no_table (sym c.in-Some.ensures.place)

pub returns-in-None-clause-meaning : goal.returns-in-None-clause-meaning
returns-in-None-clause-meaning c = not_found c.args.name.now (table_names c.args.self.now) (sym c.in-None.ensures.place)
