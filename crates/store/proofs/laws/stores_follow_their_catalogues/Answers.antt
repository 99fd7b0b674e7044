use Rattle.store.proofs.LawLemmas.{before-added, definition-changed, table-added}
use Rattle.store.proofs.laws.stores_follow_their_catalogues.Goals as goal

pub returns-clause-table : goal.returns-clause-table
returns-clause-table c = table-added

pub returns-clause-statistics : goal.returns-clause-statistics
returns-clause-statistics c = definition-changed

pub returns-clause-index : goal.returns-clause-index
returns-clause-index c = before-added
