use Rattle.std.proofs.Common.{◌+◌, ◌*◌, drop}
use Rattle.std.specs.Prelude.{◌↔◌}
use Rattle.pg_expr.specs.work.View.{cond, conds}
use Rattle.predicate_proof.proofs.Weight.{weight, weight_all}
use Rattle.predicate_proof.specs.Derivation.{AllImply, EachImpliesSome, ImpliesAll, ImpliesSome, SomeImplies}
use Rattle.predicate_proof.proofs.conditions.+follows.Given as goal

-- four steps for each node of the clause and of the goal, and in their order the functions that pass both on
abbrev pub decreases-follows_by : goal.decreases-follows_by
decreases-follows_by l = 4 * (weight (cond l.clause.now) + weight (cond l.goal.now)) + 2

abbrev pub decreases-any_follows : goal.decreases-any_follows
decreases-any_follows l = 4 * (weight (cond l.clause.now) + weight (cond l.goal.now)) + 1

abbrev pub decreases-atom_follows : goal.decreases-atom_follows
decreases-atom_follows l = 4 * (weight (cond l.clause.now) + weight (cond l.goal.now)) + 1

abbrev pub decreases-all_follow : goal.decreases-all_follow
decreases-all_follow l = 4 * (weight (cond l.clause.now) + weight_all (conds l.parts.now)) + 3

abbrev pub decreases-one_follows : goal.decreases-one_follows
decreases-one_follows l = 4 * (weight (cond l.clause.now) + weight_all (conds l.goals.now)) + 3

abbrev pub decreases-all_give : goal.decreases-all_give
decreases-all_give l = 4 * (weight_all (conds l.arms.now) + weight (cond l.goal.now)) + 3

abbrev pub decreases-one_gives : goal.decreases-one_gives
decreases-one_gives l = 4 * (weight_all (conds l.clauses.now) + weight (cond l.goal.now)) + 3

abbrev pub decreases-each_gives_one : goal.decreases-each_gives_one
decreases-each_gives_one l = 4 * (weight_all (conds l.clauses.now) + weight_all (conds l.goals.now)) + 4

-- all hold exactly where the rest does
abbrev pub invariant-all_follow-loop-part : goal.invariant-all_follow-loop-part
invariant-all_follow-loop-part l = ImpliesAll l.columns (cond l.clause) (conds (drop l.part-index l.parts)) ↔ ImpliesAll l.columns (cond l.clause) (conds l.parts)

abbrev pub invariant-one_follows-loop-goal : goal.invariant-one_follows-loop-goal
invariant-one_follows-loop-goal l = ImpliesSome l.columns (cond l.clause) (conds (drop l.goal-index l.goals)) ↔ ImpliesSome l.columns (cond l.clause) (conds l.goals)

abbrev pub invariant-all_give-loop-arm : goal.invariant-all_give-loop-arm
invariant-all_give-loop-arm l = AllImply l.columns (conds (drop l.arm-index l.arms)) (cond l.goal) ↔ AllImply l.columns (conds l.arms) (cond l.goal)

abbrev pub invariant-one_gives-loop-clause : goal.invariant-one_gives-loop-clause
invariant-one_gives-loop-clause l = SomeImplies l.columns (conds (drop l.clause-index l.clauses)) (cond l.goal) ↔ SomeImplies l.columns (conds l.clauses) (cond l.goal)

abbrev pub invariant-each_gives_one-loop-clause : goal.invariant-each_gives_one-loop-clause
invariant-each_gives_one-loop-clause l = EachImpliesSome l.columns (conds (drop l.clause-index l.clauses)) (conds l.goals) ↔ EachImpliesSome l.columns (conds l.clauses) (conds l.goals)
