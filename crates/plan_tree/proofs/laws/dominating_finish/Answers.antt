use Rattle.plan_tree.proofs.FinishLemmas.{finished-plain, finished-sort, sort-dominates, dominates-price}
use Rattle.plan_tree.proofs.laws.dominating_finish.Goals as goal

pub returns : goal.returns
returns z = record {
  plain = finished-plain;
  sorted = λ c q keys p o built e h k. (finished-sort c q keys p o built e h k, sort-dominates c q keys p o h);
  price = dominates-price;
}
