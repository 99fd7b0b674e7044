use Rattle.plan_laws.proofs.BoundLemmas.{one-price, priced-plan}
use Rattle.plan_laws.proofs.indexes.a_query_has_one_least_price.Goals as goal

pub returns : goal.returns
returns z = record { one = one-price; none = priced-plan }
