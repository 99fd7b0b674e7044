use Rattle.group_values.proofs.SumLemmas.{joins}
use Rattle.group_values.proofs.value_laws.a_tuple_joins_its_group.Goals as goal

pub returns : goal.returns
returns c shape ss keys args gs sums width many n lt same room = joins shape ss keys args gs sums width many n lt same room
