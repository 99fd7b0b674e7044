use Rattle.std.proofs.Common.{◌∙◌, ap, position, refl}
use Rattle.std.specs.Map.{keys_of}
use Rattle.std.specs.Str.{bytes_eq}
use Rattle.catalog.specs.Contents.{index_names}
use Rattle.catalog.specs.work.Entries.{named_index}
use Rattle.catalog.proofs.NameLaws.{position-key_names}
use Rattle.catalog.proofs.EntryLemmas.{names-of}
use Rattle.catalog.proofs.contents.Catalog.index_place.Goals as goal

pub returns-clause-place : goal.returns-clause-place
returns-clause-place c =
    c.get_index_of.ensures.index
    ∙ position-key_names c.args.name.now (keys_of c.self.inside.indexes.entries)
    ∙ ap (position (bytes_eq c.args.name.now)) (names-of named_index (λ d. d.name) (λ e. refl) c.self.inside.indexes.entries ∙ ap index_names c.self.view_is)
