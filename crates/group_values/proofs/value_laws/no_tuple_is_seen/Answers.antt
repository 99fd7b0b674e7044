use Rattle.group_values.proofs.SumLemmas.{first-sum}
use Rattle.group_values.proofs.value_laws.no_tuple_is_seen.Goals as goal

pub returns : goal.returns
returns c = first-sum
