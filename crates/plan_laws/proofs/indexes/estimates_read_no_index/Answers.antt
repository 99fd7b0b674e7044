use Rattle.plan_laws.proofs.EstimateLemmas.{kept-over}
use Rattle.plan_laws.proofs.indexes.estimates_read_no_index.Goals as goal

pub returns : goal.returns
returns z = kept-over
