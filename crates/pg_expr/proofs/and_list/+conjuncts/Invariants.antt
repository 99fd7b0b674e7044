use Rattle.std.proofs.Common.{◌≡◌}
use Rattle.pg_expr.specs.Cond.{joined}
use Rattle.pg_expr.specs.Conjuncts.{conjuncts_of_all}
use Rattle.pg_expr.specs.work.View.{conds}
use Rattle.pg_expr.proofs.and_list.+conjuncts.Given as goal

-- the conjuncts so far, with those of what is left, are those of all
abbrev pub invariant-all_conjuncts-loop-part : goal.invariant-all_conjuncts-loop-part
invariant-all_conjuncts-loop-part l =
    joined (conds l.all.items) (conjuncts_of_all (conds l.part-iterator.rest.items)) ≡ conjuncts_of_all (conds l.fn.parts.items.items)
