use Rattle.std.proofs.Common.{◌≡◌, ◌≤◌, min, drop}
use Rattle.path_cost.specs.work.Ranges.{conditions_of}
use Rattle.path_cost.specs.work.Relations.{range_of}
use Rattle.path_cost.specs.Selectivity.{least_bound}
use Rattle.path_cost.proofs.ranges.least_bound.Given as goal

-- what is left, after the least share so far, gives that of all
abbrev pub invariant-loop-n : goal.invariant-loop-n
invariant-loop-n l =
    let es = conditions_of l.list in
    record {
      share : min l.least (least_bound l.cat (range_of l.relations) l.x l.below (drop l.n es)) ≡ least_bound l.cat (range_of l.relations) l.x l.below es;
      part : l.least ≤ 1000000000;
    }
