use Rattle.pg_value.proofs.KindLemmas.{as-columns, directed_total, kind_total, tied-same}
use Rattle.pg_value.proofs.laws.kind_order_is_total.Goals as goal

pub returns-clause-total : goal.returns-clause-total
returns-clause-total c = kind_total

pub returns-clause-directed : goal.returns-clause-directed
returns-clause-directed c = directed_total

pub returns-clause-same : goal.returns-clause-same
returns-clause-same c = tied-same

pub returns-clause-columns : goal.returns-clause-columns
returns-clause-columns c = as-columns
