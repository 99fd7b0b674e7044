use Rattle.std.proofs.Common.{refl, arith}
use Rattle.pg_expr.specs.work.View.{cond, conds}
use Rattle.predicate_proof.specs.Derivation.{AllImply, EachImpliesSome, Implies, ImpliesAll, ImpliesSome, SomeImplies, no_part, no_arm, no_choice}
use Rattle.predicate_proof.proofs.Lists.{weight_at, rest_is, end_is, all-more, all-stop, all-end, some-more, some-stop, some-end, each_part-step, some_part-step, no_some_part, each_arm-step, some_clause-step, no_some_clause, each_choice-step}
use Rattle.predicate_proof.proofs.Inversion.{all-each, all-arms, any-arms, any-some, any-parts, atom-arms, atom-parts, atom-same, atom-comparison}
use Rattle.predicate_proof.proofs.conditions.+follows.Goals as goal

pub all_follow-follows_by-requires : goal.all_follow-follows_by-requires
all_follow-follows_by-requires t c =
    let w = weight_at c.args.parts.now c.loop-part.part-index c.part-item.result c.loop-part-test.true c.part-item.is in
    (omega (arith, w), c.requires)

pub all_follow-returns-then-not-follows_by : goal.all_follow-returns-then-not-follows_by
all_follow-returns-then-not-follows_by t c =
    all-stop (ImpliesAll c.args.columns.now (cond c.args.clause.now)) (Implies c.args.columns.now (cond c.args.clause.now)) (each_part-step c.args.columns.now (cond c.args.clause.now)) (conds c.args.parts.now) _ c.loop-part.invariant _ _ (rest_is c.args.parts.now c.loop-part.part-index c.part-item.result c.loop-part-test.true c.part-item.is) c.if-not-follows_by.ensures.1

pub all_follow-loop-part-preserved : goal.all_follow-loop-part-preserved
all_follow-loop-part-preserved t c =
    all-more (ImpliesAll c.args.columns.now (cond c.args.clause.now)) (Implies c.args.columns.now (cond c.args.clause.now)) (each_part-step c.args.columns.now (cond c.args.clause.now)) (conds c.args.parts.now) _ c.loop-part.invariant _ _ (rest_is c.args.parts.now c.loop-part.part-index c.part-item.result c.loop-part-test.true c.part-item.is) (c.if-not-follows_by.ensures.0 refl)

pub all_follow-returns : goal.all_follow-returns
all_follow-returns t c =
    all-end (ImpliesAll c.args.columns.now (cond c.args.clause.now)) (Implies c.args.columns.now (cond c.args.clause.now)) (each_part-step c.args.columns.now (cond c.args.clause.now)) (conds c.args.parts.now) _ c.loop-part.invariant (end_is c.args.parts.now c.loop-part.part-index c.loop-part-test.false) (no_part (cond c.args.clause.now))

pub one_follows-follows_by-requires : goal.one_follows-follows_by-requires
one_follows-follows_by-requires t c =
    let w = weight_at c.args.goals.now c.loop-goal.goal-index c.goal-item.result c.loop-goal-test.true c.goal-item.is in
    (omega (arith, w), c.requires)

pub one_follows-returns-then-follows_by : goal.one_follows-returns-then-follows_by
one_follows-returns-then-follows_by t c =
    some-stop (ImpliesSome c.args.columns.now (cond c.args.clause.now)) (Implies c.args.columns.now (cond c.args.clause.now)) (some_part-step c.args.columns.now (cond c.args.clause.now)) (conds c.args.goals.now) _ c.loop-goal.invariant _ _ (rest_is c.args.goals.now c.loop-goal.goal-index c.goal-item.result c.loop-goal-test.true c.goal-item.is) (c.if-follows_by.ensures.0 refl)

pub one_follows-loop-goal-preserved : goal.one_follows-loop-goal-preserved
one_follows-loop-goal-preserved t c =
    some-more (ImpliesSome c.args.columns.now (cond c.args.clause.now)) (Implies c.args.columns.now (cond c.args.clause.now)) (some_part-step c.args.columns.now (cond c.args.clause.now)) (conds c.args.goals.now) _ c.loop-goal.invariant _ _ (rest_is c.args.goals.now c.loop-goal.goal-index c.goal-item.result c.loop-goal-test.true c.goal-item.is) c.if-follows_by.ensures.1

pub one_follows-returns : goal.one_follows-returns
one_follows-returns t c =
    some-end (ImpliesSome c.args.columns.now (cond c.args.clause.now)) (Implies c.args.columns.now (cond c.args.clause.now)) (some_part-step c.args.columns.now (cond c.args.clause.now)) (conds c.args.goals.now) _ c.loop-goal.invariant (end_is c.args.goals.now c.loop-goal.goal-index c.loop-goal-test.false) (no_some_part c.args.columns.now (cond c.args.clause.now))

pub all_give-follows_by-requires : goal.all_give-follows_by-requires
all_give-follows_by-requires t c =
    let w = weight_at c.args.arms.now c.loop-arm.arm-index c.arm-item.result c.loop-arm-test.true c.arm-item.is in
    (omega (arith, w), c.requires)

pub all_give-returns-then-not-follows_by : goal.all_give-returns-then-not-follows_by
all_give-returns-then-not-follows_by t c =
    all-stop (λ cs. AllImply c.args.columns.now cs (cond c.args.goal.now)) (λ p. Implies c.args.columns.now p (cond c.args.goal.now)) (each_arm-step c.args.columns.now (cond c.args.goal.now)) (conds c.args.arms.now) _ c.loop-arm.invariant _ _ (rest_is c.args.arms.now c.loop-arm.arm-index c.arm-item.result c.loop-arm-test.true c.arm-item.is) c.if-not-follows_by.ensures.1

pub all_give-loop-arm-preserved : goal.all_give-loop-arm-preserved
all_give-loop-arm-preserved t c =
    all-more (λ cs. AllImply c.args.columns.now cs (cond c.args.goal.now)) (λ p. Implies c.args.columns.now p (cond c.args.goal.now)) (each_arm-step c.args.columns.now (cond c.args.goal.now)) (conds c.args.arms.now) _ c.loop-arm.invariant _ _ (rest_is c.args.arms.now c.loop-arm.arm-index c.arm-item.result c.loop-arm-test.true c.arm-item.is) (c.if-not-follows_by.ensures.0 refl)

pub all_give-returns : goal.all_give-returns
all_give-returns t c =
    all-end (λ cs. AllImply c.args.columns.now cs (cond c.args.goal.now)) (λ p. Implies c.args.columns.now p (cond c.args.goal.now)) (each_arm-step c.args.columns.now (cond c.args.goal.now)) (conds c.args.arms.now) _ c.loop-arm.invariant (end_is c.args.arms.now c.loop-arm.arm-index c.loop-arm-test.false) (no_arm (cond c.args.goal.now))

pub one_gives-follows_by-requires : goal.one_gives-follows_by-requires
one_gives-follows_by-requires t c =
    let w = weight_at c.args.clauses.now c.loop-clause.clause-index c.clause-item.result c.loop-clause-test.true c.clause-item.is in
    (omega (arith, w), c.requires)

pub one_gives-returns-then-follows_by : goal.one_gives-returns-then-follows_by
one_gives-returns-then-follows_by t c =
    some-stop (λ cs. SomeImplies c.args.columns.now cs (cond c.args.goal.now)) (λ p. Implies c.args.columns.now p (cond c.args.goal.now)) (some_clause-step c.args.columns.now (cond c.args.goal.now)) (conds c.args.clauses.now) _ c.loop-clause.invariant _ _ (rest_is c.args.clauses.now c.loop-clause.clause-index c.clause-item.result c.loop-clause-test.true c.clause-item.is) (c.if-follows_by.ensures.0 refl)

pub one_gives-loop-clause-preserved : goal.one_gives-loop-clause-preserved
one_gives-loop-clause-preserved t c =
    some-more (λ cs. SomeImplies c.args.columns.now cs (cond c.args.goal.now)) (λ p. Implies c.args.columns.now p (cond c.args.goal.now)) (some_clause-step c.args.columns.now (cond c.args.goal.now)) (conds c.args.clauses.now) _ c.loop-clause.invariant _ _ (rest_is c.args.clauses.now c.loop-clause.clause-index c.clause-item.result c.loop-clause-test.true c.clause-item.is) c.if-follows_by.ensures.1

pub one_gives-returns : goal.one_gives-returns
one_gives-returns t c =
    some-end (λ cs. SomeImplies c.args.columns.now cs (cond c.args.goal.now)) (λ p. Implies c.args.columns.now p (cond c.args.goal.now)) (some_clause-step c.args.columns.now (cond c.args.goal.now)) (conds c.args.clauses.now) _ c.loop-clause.invariant (end_is c.args.clauses.now c.loop-clause.clause-index c.loop-clause-test.false) (no_some_clause c.args.columns.now (cond c.args.goal.now))

pub each_gives_one-one_follows-requires : goal.each_gives_one-one_follows-requires
each_gives_one-one_follows-requires t c =
    let w = weight_at c.args.clauses.now c.loop-clause.clause-index c.clause-item.result c.loop-clause-test.true c.clause-item.is in
    (omega (arith, w), c.requires)

pub each_gives_one-returns-then-not-one_follows : goal.each_gives_one-returns-then-not-one_follows
each_gives_one-returns-then-not-one_follows t c =
    all-stop (λ cs. EachImpliesSome c.args.columns.now cs (conds c.args.goals.now)) (λ p. ImpliesSome c.args.columns.now p (conds c.args.goals.now)) (each_choice-step c.args.columns.now (conds c.args.goals.now)) (conds c.args.clauses.now) _ c.loop-clause.invariant _ _ (rest_is c.args.clauses.now c.loop-clause.clause-index c.clause-item.result c.loop-clause-test.true c.clause-item.is) c.if-not-one_follows.ensures.1

pub each_gives_one-loop-clause-preserved : goal.each_gives_one-loop-clause-preserved
each_gives_one-loop-clause-preserved t c =
    all-more (λ cs. EachImpliesSome c.args.columns.now cs (conds c.args.goals.now)) (λ p. ImpliesSome c.args.columns.now p (conds c.args.goals.now)) (each_choice-step c.args.columns.now (conds c.args.goals.now)) (conds c.args.clauses.now) _ c.loop-clause.invariant _ _ (rest_is c.args.clauses.now c.loop-clause.clause-index c.clause-item.result c.loop-clause-test.true c.clause-item.is) (c.if-not-one_follows.ensures.0 refl)

pub each_gives_one-returns : goal.each_gives_one-returns
each_gives_one-returns t c =
    all-end (λ cs. EachImpliesSome c.args.columns.now cs (conds c.args.goals.now)) (λ p. ImpliesSome c.args.columns.now p (conds c.args.goals.now)) (each_choice-step c.args.columns.now (conds c.args.goals.now)) (conds c.args.clauses.now) _ c.loop-clause.invariant (end_is c.args.clauses.now c.loop-clause.clause-index c.loop-clause-test.false) (no_choice (conds c.args.goals.now))

pub follows_by-returns-then-all_follow : goal.follows_by-returns-then-all_follow
follows_by-returns-then-all_follow t c =
    all-each c.args.columns.now (cond c.args.clause.now) (cond c.args.goal.now) _ c.in-Some-and_parts.ensures c.if-all_follow.ensures

pub follows_by-returns-in-Some-or_parts : goal.follows_by-returns-in-Some-or_parts
follows_by-returns-in-Some-or_parts t c =
    all-arms c.args.columns.now c.all_give.result (cond c.args.clause.now) (cond c.args.goal.now) _ _ c.in-Some-or_parts.ensures c.in-Some-and_parts.ensures c.if-all_follow.ensures c.all_give.ensures

pub any_follows-returns-in-Some : goal.any_follows-returns-in-Some
any_follows-returns-in-Some t c =
    any-arms c.args.columns.now c.each_gives_one.result (cond c.args.clause.now) (cond c.args.goal.now) _ _ c.in-Some.ensures c.requires.parts c.each_gives_one.ensures

pub any_follows-returns-then-one_follows : goal.any_follows-returns-then-one_follows
any_follows-returns-then-one_follows t c =
    any-some c.args.columns.now (cond c.args.clause.now) (cond c.args.goal.now) _ c.in_default.ensures c.requires.parts c.if-one_follows.ensures

pub any_follows-returns-in-Some-and_parts : goal.any_follows-returns-in-Some-and_parts
any_follows-returns-in-Some-and_parts t c =
    any-parts c.args.columns.now c.one_gives.result (cond c.args.clause.now) (cond c.args.goal.now) _ _ c.in-Some-and_parts.ensures c.requires.parts c.if-one_follows.ensures c.one_gives.ensures

pub atom_follows-returns-in-Some : goal.atom_follows-returns-in-Some
atom_follows-returns-in-Some t c =
    atom-arms c.args.columns.now c.all_give.result (cond c.args.clause.now) (cond c.args.goal.now) _ c.in-Some.ensures c.requires.atom c.all_give.ensures

pub atom_follows-returns-in-Some-and_parts : goal.atom_follows-returns-in-Some-and_parts
atom_follows-returns-in-Some-and_parts t c =
    atom-parts c.args.columns.now c.one_gives.result (cond c.args.clause.now) (cond c.args.goal.now) _ c.in-Some-and_parts.ensures c.requires.atom c.one_gives.ensures

pub atom_follows-returns-then-same_atom : goal.atom_follows-returns-then-same_atom
atom_follows-returns-then-same_atom t c =
    atom-same c.args.columns.now (cond c.args.clause.now) (cond c.args.goal.now) c.if-same_atom.ensures

pub atom_follows-returns : goal.atom_follows-returns
atom_follows-returns t c =
    atom-comparison c.args.columns.now c.comparison_gives.result (cond c.args.clause.now) (cond c.args.goal.now) c.in_default.ensures c.in_default-and_parts.ensures c.requires.atom c.if-same_atom.ensures c.comparison_gives.ensures
