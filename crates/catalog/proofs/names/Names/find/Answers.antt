use Rattle.std.proofs.Common.{ap, ◌∙◌, position}
use Rattle.std.specs.Str.{bytes_eq}
use Rattle.catalog.proofs.NameLaws.{position-key_names}
use Rattle.catalog.proofs.names.Names.find.Goals as goal

pub returns-clause-place : goal.returns-clause-place
returns-clause-place c =
    c.get_index_of.ensures.index ∙ position-key_names c.args.name.now c.self.inside.set.keys ∙ ap (position (bytes_eq c.args.name.now)) c.self.view_is
