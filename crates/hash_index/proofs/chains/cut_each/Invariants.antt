use Rattle.std.proofs.Common.{◌≡◌, ◌++◌, map, take, drop}
use Rattle.hash_index.specs.work.Groups.{below}
use Rattle.hash_index.proofs.chains.cut_each.Given as goal

abbrev pub invariant-loop-slot : goal.invariant-loop-slot
invariant-loop-slot l = l.groups ≡ map (below l.rows) (take l.slot l.fn.groups) ++ drop l.slot l.fn.groups
