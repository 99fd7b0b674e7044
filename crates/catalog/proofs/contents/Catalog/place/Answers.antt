use Rattle.std.proofs.Common.{◌∙◌, ap, position, refl, subst}
use Rattle.std.specs.Map.{keys_of}
use Rattle.std.specs.Str.{bytes_eq}
use Rattle.catalog.specs.Contents.{IsLawful, table_names}
use Rattle.catalog.specs.work.Entries.{table_def}
use Rattle.catalog.proofs.NameLaws.{position-key_names}
use Rattle.catalog.proofs.EntryLemmas.{names-of}
use Rattle.catalog.proofs.contents.Catalog.place.Goals as goal

pub returns-clause-place : goal.returns-clause-place
returns-clause-place c =
    c.get_index_of.ensures.index
    ∙ position-key_names c.args.name.now (keys_of c.self.inside.tables.entries)
    ∙ ap (position (bytes_eq c.args.name.now)) (names-of table_def (λ d. d.name) (λ e. refl) c.self.inside.tables.entries ∙ ap table_names c.self.view_is)

pub returns-clause-lawful : goal.returns-clause-lawful
returns-clause-lawful c = subst IsLawful c.self.view_is c.self.invariant.0
