use Rattle.group_values.proofs.SortedLemmas.{sorted-neighbours}
use Rattle.group_values.proofs.tuple_laws.sorted_tuples_are_neighbours.Goals as goal

pub returns : goal.returns
returns c = sorted-neighbours
