use Rattle.std.proofs.Common.{◌≡◌, drop, slice_get}
use Rattle.index_match.specs.work.Slots.{placed, chosen_slots}
use Rattle.index_match.proofs.slots.ChosenClauseList.clause.Given as goal

abbrev pub invariant-loop-k : goal.invariant-loop-k
invariant-loop-k l = slice_get (placed (drop l.k (chosen_slots l.self))) l.left ≡ slice_get (placed (chosen_slots l.self)) l.n
