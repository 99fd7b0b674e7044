use Rattle.std.proofs.Common.{◌∙◌, ◌++◌, ap, refl}
use Rattle.std.specs.Option.{option_to_list}
use Rattle.catalog.proofs.entries.take_last.Goals as goal

pub returns : goal.returns
returns c = (c.unwrap-def.result.0, c.unwrap-def.result.1, c.pop.ensures.entries ∙ ap (λ o. c.pop.new.self.entries ++ option_to_list o) c.unwrap-def.ensures, refl)
