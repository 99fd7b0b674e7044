use Rattle.join_search.specs.work.Search.{IsDone}
use Rattle.join_search.specs.work.Splits.{HasEachFilled}
use Rattle.join_search.specs.work.Tables.{paths_at}
use Rattle.join_search.proofs.by_sets.sets_below.Given as goal

-- the sets below a number are done, and those that have paths are noted
abbrev pub invariant-loop-n : goal.invariant-loop-n
invariant-loop-n l = record {
  done : IsDone l.task.cat.now l.task.q.now l.task.asked l.fn.base l.table l.n;
  filled : HasEachFilled (paths_at l.table) l.n l.filled.items;
}
