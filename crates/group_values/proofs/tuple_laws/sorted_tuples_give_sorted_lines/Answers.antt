use Rattle.group_values.proofs.OrderedLemmas.{no-sort}
use Rattle.group_values.proofs.tuple_laws.sorted_tuples_give_sorted_lines.Goals as goal

pub returns : goal.returns
returns c = no-sort
