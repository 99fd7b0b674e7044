use Rattle.std.proofs.Common.{◌≡◌, ◌≤◌, length, filter, take}
use Rattle.eq_classes.specs.Clauses.{Clause}
use Rattle.plan_tree.specs.Bitmaps.{is_or}
use Rattle.index_prices.proofs.room.ors_of.Given as goal

abbrev pub invariant-loop-n : goal.invariant-loop-n
invariant-loop-n l = record {
  count : l.ors ≡ length (filter (λ (k : Clause). is_or k.cond) (take l.n l.q.classes.clauses));
  few : l.ors ≤ l.n;
}
