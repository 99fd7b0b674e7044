use Rattle.plan_laws.proofs.SortedLemmas.{sorted_by_keys}
use Rattle.plan_laws.proofs.orders.plans_are_sorted.Goals as goal

pub returns : goal.returns
returns c = λ w q p o world bound is. sorted_by_keys w q world bound p is o
