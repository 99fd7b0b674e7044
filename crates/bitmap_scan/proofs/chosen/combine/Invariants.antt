use Rattle.std.proofs.Common.{◌≡◌, map, take}
use Rattle.plan_tree.specs.work.Views.{bits}
use Rattle.bitmap_scan.specs.work.ElementTrees.{tree_in}
use Rattle.bitmap_scan.proofs.chosen.combine.Given as goal

abbrev pub invariant-loop-k : goal.invariant-loop-k
invariant-loop-k l = map bits l.items.items ≡ map (λ k. tree_in k.now) (take l.k-index l.chosen)
