use Rattle.std.proofs.Common.{◌≡◌, ◌≤◌, ◌*◌, ◌^◌, ◌+◌, drop}
use Rattle.path_cost.specs.Selectivity.{shares_met}
use Rattle.path_cost.proofs.shares.sum_met.Given as goal

abbrev pub invariant-loop-p : goal.invariant-loop-p
invariant-loop-p l = (l.sum + shares_met l.op (drop l.p-index l.common) l.v ≡ shares_met l.op l.common l.v) × (l.sum ≤ l.p-index * 2 ^ 32)
