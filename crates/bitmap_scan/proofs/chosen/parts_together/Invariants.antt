use Rattle.std.proofs.Common.{◌≡◌, map, take}
use Rattle.cost_rules.specs.work.Costs.{capped}
use Rattle.plan_tree.specs.Costs.{together}
use Rattle.bitmap_scan.proofs.chosen.parts_together.Given as goal

abbrev pub invariant-loop-n : goal.invariant-loop-n
invariant-loop-n l = l.sum ≡ capped (together (map (λ k. k.now.part) (take l.n l.chosen)))
