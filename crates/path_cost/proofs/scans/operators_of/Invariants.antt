use Rattle.std.proofs.Common.{◌≡◌, ◌≤◌, ◌+◌, ◌-◌, ◌^◌, min, drop}
use Rattle.path_cost.specs.Costs.{operators}
use Rattle.path_cost.specs.Estimates.{conditions_from}
use Rattle.path_cost.specs.work.Estimates.{either_but}
use Rattle.path_cost.proofs.scans.operators_of.Given as goal

-- the operators that are left, with those so far, are those of all
abbrev pub invariant-loop-n : goal.invariant-loop-n
invariant-loop-n l = record {
  operators : min (l.sum + operators (conditions_from l.n (either_but l.one l.other l.but) (drop l.n l.classes.clauses))) (2 ^ 64 - 1) ≡ min (operators (conditions_from 0 (either_but l.one l.other l.but) l.classes.clauses)) (2 ^ 64 - 1);
  fits : l.sum ≤ 2 ^ 64 - 1;
}
