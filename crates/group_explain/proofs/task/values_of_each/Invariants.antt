use Rattle.std.proofs.Common.{◌≡◌, ◌++◌, drop, map}
use Rattle.pathkeys.specs.work.Finding.{class_numbers}
use Rattle.group_explain.specs.GroupPlans.{distinct_of}
use Rattle.group_explain.proofs.task.values_of_each.Given as goal

abbrev pub invariant-loop-n : goal.invariant-loop-n
invariant-loop-n l = l.values.items ++ map (distinct_of l.cat l.q) (class_numbers (drop l.n l.keys)) ≡ map (distinct_of l.cat l.q) (class_numbers l.keys)
