use Rattle.std.proofs.Common.{◌≡◌, take, false}
use Rattle.std.specs.List.{All}
use Rattle.pareto.proofs.front.is_covered.Given as goal

abbrev pub invariant-loop-item : goal.invariant-loop-item
invariant-loop-item g l = All (λ k. g.T.Ranked.is_at_most k l.t ≡ false) (take l.item-index l.items)
