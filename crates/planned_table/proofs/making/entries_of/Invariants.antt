use Rattle.std.proofs.Common.{[], map, take}
use Rattle.sql_query.specs.Queries.{width}
use Rattle.plan_check.specs.work.Views.{entry}
use Rattle.certificate_laws.specs.work.Kept.{AreEntriesOf}
use Rattle.planned_table.specs.work.Gathering.{shown}
use Rattle.planned_table.proofs.making.entries_of.Given as goal

abbrev pub invariant-loop-n : goal.invariant-loop-n
invariant-loop-n l = AreEntriesOf (width l.q) [] (map entry l.entries.items) (shown (take l.n l.listed))
