use Rattle.std.proofs.Common.{◌≡◌, List, length, map}
use Rattle.cost_rules.specs.work.Costs.{capped}
use Rattle.plan_tree.specs.Costs.{together}
use Rattle.scan_cover.specs.declared.kept.Kept.{Kept}
use Rattle.scan_cover.proofs.MarkLemmas.{IsSplit}
use Rattle.scan_cover.proofs.marks.parts_of.Given as goal

abbrev pub invariant-loop-n : goal.invariant-loop-n
invariant-loop-n l = (seen : List Kept) × IsSplit l.fn.mask l.kept l.left l.n seen × (l.sum.0 ≡ capped (together (map (λ k. k.part) seen))) × (l.sum.1 ≡ length seen)
