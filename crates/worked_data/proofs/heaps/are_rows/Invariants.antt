use Rattle.std.proofs.Common.{◌≡◌, ◌+◌}
use Rattle.worked_data.proofs.heaps.are_rows.Given as goal

abbrev pub invariant-loop-t : goal.invariant-loop-t
invariant-loop-t g l = record {
  fetches : l.fetches ≡ l.fn.fetches + l.t;
  looks : l.looks ≡ l.fn.looks + l.t;
}
