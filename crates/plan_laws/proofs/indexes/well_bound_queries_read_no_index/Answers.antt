use Rattle.plan_laws.proofs.BoundLemmas.{bound-over}
use Rattle.plan_laws.proofs.indexes.well_bound_queries_read_no_index.Goals as goal

pub returns : goal.returns
returns z = bound-over
