use Rattle.group_values.proofs.NeighbourLemmas.{last-alone}
use Rattle.group_values.proofs.tuple_laws.neighbours_are_of_the_last_group.Goals as goal

pub returns : goal.returns
returns c = last-alone
