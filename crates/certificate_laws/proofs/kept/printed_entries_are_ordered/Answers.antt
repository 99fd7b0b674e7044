use Rattle.sql_query.specs.Queries.{width}
use Rattle.certificate_laws.proofs.OrderLemmas.{ordered-entries}
use Rattle.certificate_laws.proofs.kept.printed_entries_are_ordered.Goals as goal

pub returns : goal.returns
returns z = λ q t paths are up. ordered-entries (width q) t.entries paths are up
