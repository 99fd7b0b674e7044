use Rattle.std.proofs.Common.{◌≡◌, ◌≤◌, ◌*◌, drop}
use Rattle.std.specs.Prelude.{min}
use Rattle.group_values.specs.GroupCosts.{combinations}
use Rattle.group_values.proofs.costs.lists_of_values.Given as goal

abbrev pub invariant-loop-count : goal.invariant-loop-count
invariant-loop-count l = record {
  few : l.lists ≤ l.most;
  rest : min l.most (l.lists * combinations (drop l.count-index l.distinct)) ≡ min l.most (combinations l.distinct);
}
