use Rattle.std.proofs.Common.{◌+◌, ◌*◌, drop}
use Rattle.std.specs.Prelude.{◌↔◌}
use Rattle.pg_expr.specs.Cond.{all_of, conds_of}
use Rattle.pg_expr.specs.work.View.{cond, conds}
use Rattle.predicate_proof.proofs.Weight.{weight, weight_all}
use Rattle.predicate_proof.specs.Derivation.{ImpliesAll, ImpliesSome}
use Rattle.predicate_proof.proofs.implication.+list.Given as goal

-- two steps for each node of the goal
abbrev pub decreases-list_implies : goal.decreases-list_implies
decreases-list_implies g l = 2 * weight (cond l.goal.now)

abbrev pub decreases-list_implies_all : goal.decreases-list_implies_all
decreases-list_implies_all g l = 2 * weight_all (conds l.goals.now) + 1

abbrev pub decreases-list_implies_one : goal.decreases-list_implies_one
decreases-list_implies_one g l = 2 * weight_all (conds l.goals.now) + 1

-- all hold exactly where the rest does
abbrev pub invariant-list_implies_all-loop-goal : goal.invariant-list_implies_all-loop-goal
invariant-list_implies_all-loop-goal g l =
    let clause = all_of (conds_of (g.C.ClauseList.conditions l.clauses)) in
    ImpliesAll l.columns clause (conds (drop l.goal-index l.goals)) ↔ ImpliesAll l.columns clause (conds l.goals)

abbrev pub invariant-list_implies_one-loop-goal : goal.invariant-list_implies_one-loop-goal
invariant-list_implies_one-loop-goal g l =
    let clause = all_of (conds_of (g.C.ClauseList.conditions l.clauses)) in
    ImpliesSome l.columns clause (conds (drop l.goal-index l.goals)) ↔ ImpliesSome l.columns clause (conds l.goals)
