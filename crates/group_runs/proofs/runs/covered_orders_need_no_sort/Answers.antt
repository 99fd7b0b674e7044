use Rattle.group_runs.proofs.OrderLemmas.{plan-needs-no-sort}
use Rattle.group_runs.proofs.runs.covered_orders_need_no_sort.Goals as goal

pub returns : goal.returns
returns c w q p given asked shape keys args world bound other finished covered sorters = plan-needs-no-sort w q p given asked world bound other finished covered shape keys args sorters
