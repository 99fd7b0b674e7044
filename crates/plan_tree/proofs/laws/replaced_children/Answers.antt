use Rattle.plan_tree.proofs.ReplacingLemmas.{sort-replaced, nest-replaced, merge-replaced}
use Rattle.plan_tree.proofs.laws.replaced_children.Goals as goal

pub returns : goal.returns
returns z = record { sort = sort-replaced; nest = nest-replaced; merge = merge-replaced }
