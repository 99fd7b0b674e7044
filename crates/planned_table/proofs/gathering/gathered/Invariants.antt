use Rattle.join_search.specs.work.Tables.{paths_at}
use Rattle.planned_table.specs.work.Gathering.{AreGathered, IsBelow, shown}
use Rattle.planned_table.proofs.gathering.gathered.Given as goal

abbrev pub invariant-loop-r : goal.invariant-loop-r
invariant-loop-r l = AreGathered (IsBelow l.all.0 l.r) (paths_at l.table) (shown l.listed.items)
