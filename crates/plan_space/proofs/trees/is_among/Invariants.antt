use Rattle.std.proofs.Common.{◌≡◌, ◌<◌, ℕ, map, get_or}
use Rattle.plan_tree.specs.work.Views.{element}
use Rattle.plan_space.proofs.trees.is_among.Given as goal

abbrev pub invariant-loop-other : goal.invariant-loop-other
invariant-loop-other l = (k : ℕ) → k < l.other-index → ¬ (get_or (map element l.found) k (element l.e) ≡ element l.e)
