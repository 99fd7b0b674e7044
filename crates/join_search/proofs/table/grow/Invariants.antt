use Rattle.std.proofs.Common.{◌≡◌, ◌≤◌, ℕ, length}
use Rattle.join_search.specs.work.Tables.{list_at}
use Rattle.join_search.proofs.table.grow.Given as goal

-- the lists are as they were, and as many as were gone through
abbrev pub invariant-loop-n : goal.invariant-loop-n
invariant-loop-n l = record {
  many : l._n ≤ length l.sets.items;
  same : (k : ℕ) → list_at l.sets.items k ≡ list_at l.fn.sets.items k;
}
