use Rattle.sql_query.proofs.OrderLemmas.{in_no_order}
use Rattle.sql_query.proofs.laws.no_order_is_well_bound.Goals as goal

pub returns : goal.returns
returns g c q is = in_no_order c q is
