use Rattle.expr_reader.proofs.PlaceLemmas.{nothing}
use Rattle.expr_reader.proofs.places.nowhere.Goals as goal

pub returns : goal.returns
returns c = nothing 320
