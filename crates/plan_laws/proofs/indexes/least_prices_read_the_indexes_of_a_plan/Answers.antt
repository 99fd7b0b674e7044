use Rattle.plan_laws.proofs.KeptPlanLemmas.{none-left, price-left}
use Rattle.plan_laws.proofs.indexes.least_prices_read_the_indexes_of_a_plan.Goals as goal

pub returns : goal.returns
returns z = record {
  price = λ tables q indexes kept p room h k. price-left tables q kept indexes room p h k;
  none = λ tables q indexes kept room h. none-left tables q kept indexes room h;
}
