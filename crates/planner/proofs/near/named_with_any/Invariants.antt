use Rattle.pg_base.specs.Sets.{has}
use Rattle.planner.specs.work.Near.{HavePairs}
use Rattle.planner.proofs.near.named_with_any.Given as goal

-- the pairs with the relations so far
abbrev pub invariant-loop-k : goal.invariant-loop-k
invariant-loop-k l = HavePairs l.q l.r.0 l.k (has l.near.0)
