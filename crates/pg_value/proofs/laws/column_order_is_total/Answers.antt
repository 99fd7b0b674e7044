use Rattle.pg_value.proofs.ColumnOrderLemmas.{column_total}
use Rattle.pg_value.proofs.laws.column_order_is_total.Goals as goal

pub returns : goal.returns
returns c = column_total
