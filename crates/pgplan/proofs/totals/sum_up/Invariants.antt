use Rattle.std.proofs.Common.{◌≤◌, ◌-◌, ◌*◌, ◌^◌, length}
use Rattle.pgplan.proofs.SummingLemmas.{IsTalliedTo}
use Rattle.pgplan.proofs.totals.sum_up.Given as goal

abbrev pub invariant-statements : goal.invariant-statements
invariant-statements g l = record {
  way : IsTalliedTo l.text l.at l.machine l.totals.queries l.totals.rows l.totals.cost;
  within : l.at ≤ length l.text;
  few : l.totals.queries ≤ l.at;
  rows : l.totals.rows ≤ l.at * 2 ^ 64;
  cost : l.totals.cost ≤ l.at * 2 ^ 64;
}

abbrev pub decreases-statements : goal.decreases-statements
decreases-statements g l = length l.text - l.at
