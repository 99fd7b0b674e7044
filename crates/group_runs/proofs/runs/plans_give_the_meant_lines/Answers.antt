use Rattle.group_runs.proofs.RunLemmas.{plan-lines}
use Rattle.group_runs.proofs.runs.plans_give_the_meant_lines.Goals as goal

pub returns : goal.returns
returns c w q p shape keys args world bound finished many = plan-lines w q p world bound finished shape keys args many
