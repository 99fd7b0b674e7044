use Rattle.eq_classes.proofs.TableLemmas.{where_at}
use Rattle.plan_laws.proofs.classes.clauses_mean_where.Goals as goal

pub returns : goal.returns
returns c = λ g t ws b set is. where_at g t is ws b set
