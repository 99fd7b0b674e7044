use Rattle.std.proofs.Common.{◌≡◌, take}
use Rattle.join_search.proofs.lists.copied.Given as goal

abbrev pub invariant-loop-k : goal.invariant-loop-k
invariant-loop-k l = l.items.items ≡ take l.k-index l.classes
