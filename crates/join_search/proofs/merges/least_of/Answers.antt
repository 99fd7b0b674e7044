use Rattle.cost_rules.specs.Costs.{pair}
use Rattle.join_search.proofs.PastLemmas.{least-from}
use Rattle.join_search.proofs.merges.least_of.Goals as goal

pub returns : goal.returns
returns c = least-from c.args.paths.now (pair c.least_startup.result c.least_cost.result) c.least_startup.ensures c.least_cost.ensures
