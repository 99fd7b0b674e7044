use Rattle.std.proofs.Common.{◌≤◌}
use Rattle.join_search.specs.work.Tables.{paths_at}
use Rattle.planned_table.specs.work.Gathering.{AreGathered, IsBelowOr, shown}
use Rattle.planned_table.proofs.gathering.add_given.Given as goal

abbrev pub invariant-loop-bits : goal.invariant-loop-bits
invariant-loop-bits l = record {
  some : 1 ≤ l.bits;
  paths : AreGathered (IsBelowOr l.fn.all.0 l.fn.r.0 l.bits) (paths_at l.table) (shown l.listed.items);
}
