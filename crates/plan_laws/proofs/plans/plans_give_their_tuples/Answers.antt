use Rattle.plan_laws.specs.work.Meant.{meant, meant_scan}
use Rattle.plan_tree.specs.Plans.{empty, set_of}
use Rattle.plan_tree.specs.Run.{run}
use Rattle.pg_base.specs.Sets.{has}
use Rattle.std.proofs.Common.{refl}
use Rattle.plan_laws.proofs.FinishedLemmas.{finished_is_meaning}
use Rattle.plan_laws.proofs.GivingLemmas.{given_means, plan_means, whole_means}
use Rattle.plan_laws.proofs.PermLemmas.{to_std}
use Rattle.plan_laws.proofs.plans.plans_give_their_tuples.Goals as goal

pub returns : goal.returns
returns c = record {
  built = λ w q p o world bound is none. to_std (run w q p o) (meant w q (set_of p)) (whole_means w q world bound p is none o);
  whole = λ w q set p o world bound is. to_std (run w q p o) (meant w q set) (plan_means w q world bound set empty p is (λ k. refl) o);
  given = λ w q p s o world bound is same. to_std (run w q p o) (meant_scan w q s.relation.0 (has s.param.0) o) (given_means w q world bound p s is same o);
  finished = λ w q p world bound is. finished_is_meaning w q world bound p is;
}
