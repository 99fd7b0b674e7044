use Rattle.plan_tree.proofs.DominationLemmas.{plain-stands, sort-stands, nest-dominates, merge-dominates}
use Rattle.plan_tree.proofs.laws.dominating_sides.Goals as goal

pub returns : goal.returns
returns z = record { plain = plain-stands; sorted = sort-stands; nest = nest-dominates; merge = merge-dominates }
