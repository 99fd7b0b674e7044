use Rattle.executor.proofs.RowLemmas.{finished_rows}
use Rattle.executor.proofs.laws.tuples_have_rows.Goals as goal

pub returns : goal.returns
returns c = λ w q p world bound is. finished_rows w q world bound p is
