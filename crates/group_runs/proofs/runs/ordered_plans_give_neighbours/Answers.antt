use Rattle.group_runs.proofs.RunLemmas.{plan-neighbours}
use Rattle.group_runs.proofs.runs.ordered_plans_give_neighbours.Goals as goal

pub returns : goal.returns
returns c w q p args world bound finished = plan-neighbours w q p world bound finished args
