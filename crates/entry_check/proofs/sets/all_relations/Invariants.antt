use Rattle.std.proofs.Common.{◌≡◌, ℕ, nat_lt}
use Rattle.pg_base.specs.Sets.{has}
use Rattle.entry_check.proofs.sets.all_relations.Given as goal

-- the relations so far
abbrev pub invariant-loop-r : goal.invariant-loop-r
invariant-loop-r l = (k : ℕ) → has l.all.0 k ≡ nat_lt k l.r
