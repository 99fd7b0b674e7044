use Rattle.group_values.proofs.CostLemmas.{total-input, total-rises}
use Rattle.group_values.proofs.cost_laws.group_costs_rise.Goals as goal

pub returns-clause-input : goal.returns-clause-input
returns-clause-input c = total-input

pub returns-clause-rises : goal.returns-clause-rises
returns-clause-rises c = total-rises
