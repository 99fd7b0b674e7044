use Rattle.plan_laws.proofs.PartLemmas.{base_at}
use Rattle.plan_laws.proofs.classes.base_is_all.Goals as goal

pub returns : goal.returns
returns c = λ g t b r is. base_at g t is b r
