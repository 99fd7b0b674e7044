use Rattle.plan_laws.proofs.IndexLemmas.{scan-cost-same}
use Rattle.plan_laws.proofs.indexes.scans_read_definitions.Goals as goal

pub returns : goal.returns
returns z = scan-cost-same
