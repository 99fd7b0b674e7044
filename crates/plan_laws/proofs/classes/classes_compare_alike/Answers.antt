use Rattle.plan_laws.proofs.PartLemmas.{alike_at}
use Rattle.plan_laws.proofs.classes.classes_compare_alike.Goals as goal

pub returns : goal.returns
returns c = λ g t b d part set k x y is. alike_at g t is b d part set k x y
