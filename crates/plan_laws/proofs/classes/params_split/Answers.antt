use Rattle.plan_laws.proofs.PartLemmas.{params_at}
use Rattle.plan_laws.proofs.classes.params_split.Goals as goal

pub returns : goal.returns
returns c = λ g t b s p r is typed fits. params_at g t is b typed fits s p r
