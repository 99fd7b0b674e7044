use Rattle.predicate_proof.proofs.Sound.{sound}
use Rattle.predicate_proof.proofs.implication.implied_conditions_hold.Goals as goal

pub returns : goal.returns
returns c = λ columns clause predicate implied row fits holds. sound c.order_is_total.ensures.total columns row fits clause predicate implied holds
