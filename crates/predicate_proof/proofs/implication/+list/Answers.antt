use Rattle.std.proofs.Common.{refl, arith}
use Rattle.pg_expr.specs.work.View.{cond, conds}
use Rattle.pg_expr.specs.Cond.{all_of, conds_of}
use Rattle.predicate_proof.specs.Derivation.{Implies, ImpliesAll, ImpliesSome, no_part}
use Rattle.predicate_proof.proofs.Lists.{weight_at, rest_is, end_is, all-more, all-stop, all-end, some-more, some-stop, some-end, each_part-step, some_part-step, no_some_part}
use Rattle.predicate_proof.proofs.Inversion.{list-all, list-gives, list-some}
use Rattle.predicate_proof.proofs.implication.+list.Goals as goal

pub list_implies_all-list_implies-requires : goal.list_implies_all-list_implies-requires
list_implies_all-list_implies-requires g t c κs within =
    let w = weight_at c.args.goals.now c.loop-goal.goal-index c.goal-item.result c.loop-goal-test.true c.goal-item.is in
    (omega (arith, w), within)

pub list_implies_all-returns-then-not-list_implies : goal.list_implies_all-returns-then-not-list_implies
list_implies_all-returns-then-not-list_implies g t c =
    all-stop (ImpliesAll c.args.columns.now (all_of (conds_of (g.C.ClauseList.conditions c.args.clauses.now)))) (Implies c.args.columns.now (all_of (conds_of (g.C.ClauseList.conditions c.args.clauses.now)))) (each_part-step c.args.columns.now (all_of (conds_of (g.C.ClauseList.conditions c.args.clauses.now)))) (conds c.args.goals.now) _ c.loop-goal.invariant _ _ (rest_is c.args.goals.now c.loop-goal.goal-index c.goal-item.result c.loop-goal-test.true c.goal-item.is) c.if-not-list_implies.ensures.1

pub list_implies_all-loop-goal-preserved : goal.list_implies_all-loop-goal-preserved
list_implies_all-loop-goal-preserved g t c =
    all-more (ImpliesAll c.args.columns.now (all_of (conds_of (g.C.ClauseList.conditions c.args.clauses.now)))) (Implies c.args.columns.now (all_of (conds_of (g.C.ClauseList.conditions c.args.clauses.now)))) (each_part-step c.args.columns.now (all_of (conds_of (g.C.ClauseList.conditions c.args.clauses.now)))) (conds c.args.goals.now) _ c.loop-goal.invariant _ _ (rest_is c.args.goals.now c.loop-goal.goal-index c.goal-item.result c.loop-goal-test.true c.goal-item.is) (c.if-not-list_implies.ensures.0 refl)

pub list_implies_all-returns : goal.list_implies_all-returns
list_implies_all-returns g t c =
    all-end (ImpliesAll c.args.columns.now (all_of (conds_of (g.C.ClauseList.conditions c.args.clauses.now)))) (Implies c.args.columns.now (all_of (conds_of (g.C.ClauseList.conditions c.args.clauses.now)))) (each_part-step c.args.columns.now (all_of (conds_of (g.C.ClauseList.conditions c.args.clauses.now)))) (conds c.args.goals.now) _ c.loop-goal.invariant (end_is c.args.goals.now c.loop-goal.goal-index c.loop-goal-test.false) (no_part (all_of (conds_of (g.C.ClauseList.conditions c.args.clauses.now))))

pub list_implies_one-list_implies-requires : goal.list_implies_one-list_implies-requires
list_implies_one-list_implies-requires g t c κs within =
    let w = weight_at c.args.goals.now c.loop-goal.goal-index c.goal-item.result c.loop-goal-test.true c.goal-item.is in
    (omega (arith, w), within)

pub list_implies_one-returns-then-list_implies : goal.list_implies_one-returns-then-list_implies
list_implies_one-returns-then-list_implies g t c =
    some-stop (ImpliesSome c.args.columns.now (all_of (conds_of (g.C.ClauseList.conditions c.args.clauses.now)))) (Implies c.args.columns.now (all_of (conds_of (g.C.ClauseList.conditions c.args.clauses.now)))) (some_part-step c.args.columns.now (all_of (conds_of (g.C.ClauseList.conditions c.args.clauses.now)))) (conds c.args.goals.now) _ c.loop-goal.invariant _ _ (rest_is c.args.goals.now c.loop-goal.goal-index c.goal-item.result c.loop-goal-test.true c.goal-item.is) (c.if-list_implies.ensures.0 refl)

pub list_implies_one-loop-goal-preserved : goal.list_implies_one-loop-goal-preserved
list_implies_one-loop-goal-preserved g t c =
    some-more (ImpliesSome c.args.columns.now (all_of (conds_of (g.C.ClauseList.conditions c.args.clauses.now)))) (Implies c.args.columns.now (all_of (conds_of (g.C.ClauseList.conditions c.args.clauses.now)))) (some_part-step c.args.columns.now (all_of (conds_of (g.C.ClauseList.conditions c.args.clauses.now)))) (conds c.args.goals.now) _ c.loop-goal.invariant _ _ (rest_is c.args.goals.now c.loop-goal.goal-index c.goal-item.result c.loop-goal-test.true c.goal-item.is) c.if-list_implies.ensures.1

pub list_implies_one-returns : goal.list_implies_one-returns
list_implies_one-returns g t c =
    some-end (ImpliesSome c.args.columns.now (all_of (conds_of (g.C.ClauseList.conditions c.args.clauses.now)))) (Implies c.args.columns.now (all_of (conds_of (g.C.ClauseList.conditions c.args.clauses.now)))) (some_part-step c.args.columns.now (all_of (conds_of (g.C.ClauseList.conditions c.args.clauses.now)))) (conds c.args.goals.now) _ c.loop-goal.invariant (end_is c.args.goals.now c.loop-goal.goal-index c.loop-goal-test.false) (no_some_part c.args.columns.now (all_of (conds_of (g.C.ClauseList.conditions c.args.clauses.now))))

pub list_implies-returns-in-Some : goal.list_implies-returns-in-Some
list_implies-returns-in-Some g t c =
    list-all c.args.columns.now c.list_implies_all.result (conds_of (g.C.ClauseList.conditions c.args.clauses.now)) (cond c.args.goal.now) _ c.in-Some.ensures c.list_implies_all.ensures

pub list_implies-returns-then-clause_gives : goal.list_implies-returns-then-clause_gives
list_implies-returns-then-clause_gives g t c =
    list-gives c.args.columns.now (conds_of (g.C.ClauseList.conditions c.args.clauses.now)) (cond c.args.goal.now) c.in_default.ensures c.if-clause_gives.ensures

pub list_implies-returns-in-Some-or_parts : goal.list_implies-returns-in-Some-or_parts
list_implies-returns-in-Some-or_parts g t c =
    list-some c.args.columns.now c.list_implies_one.result (conds_of (g.C.ClauseList.conditions c.args.clauses.now)) (cond c.args.goal.now) _ c.in-Some-or_parts.ensures c.if-clause_gives.ensures c.list_implies_one.ensures
