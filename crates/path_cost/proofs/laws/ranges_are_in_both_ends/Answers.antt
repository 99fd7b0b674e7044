use Rattle.path_cost.proofs.RangeLemmas.{range-in-ends}
use Rattle.path_cost.proofs.laws.ranges_are_in_both_ends.Goals as goal

pub returns : goal.returns
returns c = λ k range x es lawful tables columns ranged. range-in-ends k range lawful tables x es columns ranged
