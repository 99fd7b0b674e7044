use Rattle.group_runs.proofs.BagLemmas.{bag-of-lines}
use Rattle.group_runs.proofs.groups.tuples_in_any_order_give_the_same_lines.Goals as goal

pub returns : goal.returns
returns c = bag-of-lines
