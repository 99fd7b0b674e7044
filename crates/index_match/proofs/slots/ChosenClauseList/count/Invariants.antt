use Rattle.std.proofs.Common.{◌≡◌, ◌≤◌, ◌+◌, length, drop}
use Rattle.index_match.specs.work.Slots.{placed, chosen_slots}
use Rattle.index_match.proofs.slots.ChosenClauseList.count.Given as goal

abbrev pub invariant-loop-n : goal.invariant-loop-n
invariant-loop-n l = record {
  sum : l.count + length (placed (drop l.n (chosen_slots l.self))) ≡ length (placed (chosen_slots l.self));
  few : l.count ≤ l.n;
}
