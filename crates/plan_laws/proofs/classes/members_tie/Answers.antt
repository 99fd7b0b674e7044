use Rattle.plan_laws.proofs.PartLemmas.{tie_at, constant_at}
use Rattle.plan_laws.proofs.classes.members_tie.Goals as goal

pub returns-clause-same : goal.returns-clause-same
returns-clause-same c = λ g t b set k x y is typed fits. tie_at g t is b typed fits set k x y

pub returns-clause-constant : goal.returns-clause-constant
returns-clause-constant c = λ g t b d set k x is. constant_at g t is b d set k x
