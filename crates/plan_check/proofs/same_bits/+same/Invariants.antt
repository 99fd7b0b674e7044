use Rattle.plan_check.proofs.SameLemmas.{AreAlike}
use Rattle.plan_check.proofs.same_bits.+same.Given as goal

abbrev pub invariant-are_same_trees-loop-n : goal.invariant-are_same_trees-loop-n
invariant-are_same_trees-loop-n l = AreAlike l.a l.b l.n
