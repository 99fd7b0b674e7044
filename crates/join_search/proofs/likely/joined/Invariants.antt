use Rattle.join_search.specs.work.Joins.{ArePlaced, HaveSameScans}
use Rattle.join_search.specs.work.Tables.{paths_at}
use Rattle.join_search.proofs.likely.joined.Given as goal

-- each path stands at its place, and the fronts of single relations are as they were
abbrev pub invariant-loop-n : goal.invariant-loop-n
invariant-loop-n l = record {
  placed : ArePlaced l.task.cat.now l.task.q.now (paths_at l.table);
  scans : HaveSameScans l.table l.fn.base;
}
