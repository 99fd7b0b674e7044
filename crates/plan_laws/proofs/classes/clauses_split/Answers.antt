use Rattle.plan_laws.proofs.PartLemmas.{split_at}
use Rattle.plan_laws.proofs.classes.clauses_split.Goals as goal

pub returns : goal.returns
returns c = λ g t b s u is typed fits. split_at g t is b typed fits s u
