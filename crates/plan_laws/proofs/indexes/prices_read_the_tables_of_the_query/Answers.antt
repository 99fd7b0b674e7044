use Rattle.plan_laws.proofs.PriceLemmas.{added-same, none-reads, price-reads}
use Rattle.plan_laws.proofs.indexes.prices_read_the_tables_of_the_query.Goals as goal

pub returns : goal.returns
returns z = record { price = price-reads; none = none-reads; candidates = added-same }
