use Rattle.std.proofs.Common.{◌≡◌, [], take}
use Rattle.std.specs.Prelude.{All}
use Rattle.join_search.specs.declared.table.Placed.{Placed}
use Rattle.join_search.proofs.table.are_empty.Given as goal

abbrev pub invariant-loop-f : goal.invariant-loop-f
invariant-loop-f l = All (λ (x : Placed). x.front ≡ []) (take l.f-index l.places)
