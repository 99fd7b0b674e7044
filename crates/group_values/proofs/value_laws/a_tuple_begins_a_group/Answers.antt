use Rattle.group_values.proofs.SumLemmas.{begins}
use Rattle.group_values.proofs.value_laws.a_tuple_begins_a_group.Goals as goal

pub returns : goal.returns
returns c shape ss keys args gs sums width many other = begins shape ss keys args gs sums width many other
