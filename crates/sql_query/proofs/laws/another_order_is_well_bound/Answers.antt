use Rattle.sql_query.proofs.OrderLemmas.{in_other_order}
use Rattle.sql_query.proofs.laws.another_order_is_well_bound.Goals as goal

pub returns : goal.returns
returns g c q is order used stands directed = in_other_order c q is order used stands directed
