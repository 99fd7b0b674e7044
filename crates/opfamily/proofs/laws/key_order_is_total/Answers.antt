use Rattle.opfamily.proofs.KeyOrderLemmas.{keys_total, entries_total}
use Rattle.opfamily.proofs.laws.key_order_is_total.Goals as goal

pub returns-clause-keys : goal.returns-clause-keys
returns-clause-keys c = keys_total

pub returns-clause-entries : goal.returns-clause-entries
returns-clause-entries c = entries_total
