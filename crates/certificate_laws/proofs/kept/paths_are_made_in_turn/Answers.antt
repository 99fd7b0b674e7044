use Rattle.certificate_laws.proofs.TurnLemmas.{made-in-turn}
use Rattle.certificate_laws.proofs.kept.paths_are_made_in_turn.Goals as goal

pub returns : goal.returns
returns z = λ c q fronts paths over searched are ordered. made-in-turn c q over fronts searched paths are ordered
