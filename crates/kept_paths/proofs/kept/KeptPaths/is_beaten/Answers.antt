use Rattle.std.proofs.Common.{◌∙◌}
use Rattle.kept_paths.proofs.ToldLemmas.{found-exact, found-sound}
use Rattle.kept_paths.proofs.kept.KeptPaths.is_beaten.Goals as goal

pub returns-clause-sound : goal.returns-clause-sound
returns-clause-sound c =
    found-sound c.args.self.now c.self.inside.paths.items c.self.inside.bounds c.as_slice.result.now c.args.by.now c.args.cost c.is_beaten.result c.self.view_is c.self.invariant
    (c.as_slice.ensures ∙ c.in_ok-list.ensures) c.is_beaten.ensures

pub returns-clause-exact : goal.returns-clause-exact
returns-clause-exact c =
    found-exact c.args.self.now c.self.inside.paths.items c.self.inside.bounds c.as_slice.result.now c.args.by.now c.args.cost c.is_beaten.result c.self.view_is c.self.invariant
    (c.as_slice.ensures ∙ c.in_ok-list.ensures) c.is_beaten.ensures
