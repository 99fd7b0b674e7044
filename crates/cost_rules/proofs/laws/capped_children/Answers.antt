use Rattle.cost_rules.proofs.CapLemmas.{sort-capped, nest-capped, merge-capped, capped-rises, capped-cost}
use Rattle.cost_rules.proofs.laws.capped_children.Goals as goal

pub returns : goal.returns
returns c = record { sort = sort-capped; nest = nest-capped; merge = merge-capped; rising = capped-rises; cost = capped-cost }
