use Rattle.std.proofs.Common.{◌≡◌, ◌≤◌, ◌*◌, ◌^◌, take}
use Rattle.catalog.specs.Statistics.{shares}
use Rattle.path_cost.proofs.shares.sum_of.Given as goal

abbrev pub invariant-loop-n : goal.invariant-loop-n
invariant-loop-n l = (l.sum ≡ shares (take l.n l.common)) × (l.sum ≤ l.n * 2 ^ 32)
