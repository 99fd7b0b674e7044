use Rattle.std.proofs.Common.{◌≡◌, ◌<◌, ◌≤◌, ◌/◌, ℕ, false}
use Rattle.heap.specs.work.TidSets.{is_marked}
use Rattle.heap.proofs.tids.first_mark.Given as goal

abbrev pub invariant-loop-place : goal.invariant-loop-place
invariant-loop-place l = record {
  begun : l.t / 64 ≤ l.place;
  none : (n : ℕ) → l.t ≤ n → n / 64 < l.place → is_marked l.words n ≡ false;
}
