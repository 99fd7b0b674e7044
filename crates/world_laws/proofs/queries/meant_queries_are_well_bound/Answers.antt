use Rattle.world_laws.proofs.BoundLemmas.{part-bound}
use Rattle.world_laws.proofs.queries.meant_queries_are_well_bound.Goals as goal

pub returns : goal.returns
returns z = λ c start x rest b classes lawful named means own. part-bound c lawful start x rest b named means classes own
