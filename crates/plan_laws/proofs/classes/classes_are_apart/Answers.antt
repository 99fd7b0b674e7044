use Rattle.plan_laws.proofs.PartLemmas.{apart_at}
use Rattle.plan_laws.proofs.classes.classes_are_apart.Goals as goal

pub returns : goal.returns
returns c = λ g t m k l is. apart_at g t is m k l
