use Rattle.pathkeys.proofs.CoveringLemmas.{covers-refl, covers-antisym, covers-trans}
use Rattle.pathkeys.proofs.laws.covering_is_a_partial_order.Goals as goal

pub returns : goal.returns
returns c = record { reflexive = covers-refl; antisymmetric = covers-antisym; transitive = covers-trans }
