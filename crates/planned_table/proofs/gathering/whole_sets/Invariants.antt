use Rattle.join_search.specs.work.Tables.{paths_at}
use Rattle.planned_table.specs.work.Gathering.{AreGathered, IsWholeBelow, shown}
use Rattle.planned_table.proofs.gathering.whole_sets.Given as goal

abbrev pub invariant-loop-bits : goal.invariant-loop-bits
invariant-loop-bits l = AreGathered (IsWholeBelow l.bits) (paths_at l.table) (shown l.listed.items)
