use Rattle.std.proofs.Common.{◌≡◌, ◌⊎◌, ◌<◌, ℕ, [], length}
use Rattle.join_search.specs.work.Joins.{IsSingle}
use Rattle.join_search.specs.work.Tables.{list_at, set_numbered}
use Rattle.join_search.proofs.table.forget.Given as goal

-- as many lists as there were, those of single relations as they were, and of the others so far none has fronts
abbrev pub invariant-loop-n : goal.invariant-loop-n
invariant-loop-n l = record {
  many : length l.sets.items ≡ length l.fn.sets.items;
  single : (k : ℕ) → IsSingle (set_numbered k) → list_at l.sets.items k ≡ list_at l.fn.sets.items k;
  others : (k : ℕ) → k < l.n → IsSingle (set_numbered k) ⊎ (list_at l.sets.items k ≡ []);
}
