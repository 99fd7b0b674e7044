use Rattle.plan_laws.proofs.PlanLemmas.{finished-there, price-there, best-there}
use Rattle.plan_laws.proofs.TreeLemmas.{keeps}
use Rattle.plan_laws.proofs.indexes.finished_plans_move.Goals as goal

pub returns : goal.returns
returns z = record {
  finished = λ tables a b q f m p h. finished-there tables a b q f (keeps tables a b q f m) p h;
  price = λ tables a b q f m p h. price-there tables a b q f (keeps tables a b q f m) p h.built;
  best = λ tables a b q f g m back p h. best-there tables a b q f g (keeps tables a b q f m) (keeps tables b a q g back) p h;
}
