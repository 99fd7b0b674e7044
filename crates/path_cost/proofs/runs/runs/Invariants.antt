use Rattle.std.proofs.Common.{◌≡◌}
use Rattle.std.specs.Prelude.{IfSome}
use Rattle.pg_base.specs.Sets.{has}
use Rattle.cost_rules.specs.work.Costs.{IsEstimate}
use Rattle.path_cost.specs.Runs.{runs}
use Rattle.path_cost.proofs.RunLemmas.{alone-from, least_with}
use Rattle.path_cost.proofs.runs.runs.Given as goal

-- the least of those so far and of the relations that are left is that of all
abbrev pub invariant-loop-n : goal.invariant-loop-n
invariant-loop-n l = record {
  runs : least_with l.least (alone-from l.cat l.range l.classes (has l.p.0) l.n) ≡ runs l.cat l.range l.classes (has l.p.0);
  estimate : IfSome l.least IsEstimate;
}
