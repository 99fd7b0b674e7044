use Rattle.std.proofs.Common.{refl, arith}
use Rattle.pg_expr.specs.work.View.{cond}
use Rattle.pg_expr.specs.Cond.{conds_of}
use Rattle.predicate_proof.specs.Derivation.{Implies, SomeImplies}
use Rattle.predicate_proof.proofs.Lists.{tree_rest_is, tree_end_is, some-more, some-stop, some-end, some_clause-step, no_some_clause}
use Rattle.predicate_proof.proofs.implication.clause_gives.Goals as goal

pub returns-then-follows : goal.returns-then-follows
returns-then-follows g c =
    some-stop (λ cs. SomeImplies c.args.columns.now cs (cond c.args.goal.now)) (λ p. Implies c.args.columns.now p (cond c.args.goal.now)) (some_clause-step c.args.columns.now (cond c.args.goal.now)) (conds_of (g.C.ClauseList.conditions c.args.clauses.now)) _ c.loop-n.invariant _ _ (tree_rest_is (g.C.ClauseList.conditions c.args.clauses.now) c.loop-n.n _ c.clause.ensures) (c.if-follows.ensures.0 refl)

pub loop-n-preserved : goal.loop-n-preserved
loop-n-preserved g c =
    some-more (λ cs. SomeImplies c.args.columns.now cs (cond c.args.goal.now)) (λ p. Implies c.args.columns.now p (cond c.args.goal.now)) (some_clause-step c.args.columns.now (cond c.args.goal.now)) (conds_of (g.C.ClauseList.conditions c.args.clauses.now)) _ c.loop-n.invariant _ _ (tree_rest_is (g.C.ClauseList.conditions c.args.clauses.now) c.loop-n.n _ c.clause.ensures) c.if-follows.ensures.1

pub returns : goal.returns
returns g c =
    some-end (λ cs. SomeImplies c.args.columns.now cs (cond c.args.goal.now)) (λ p. Implies c.args.columns.now p (cond c.args.goal.now)) (some_clause-step c.args.columns.now (cond c.args.goal.now)) (conds_of (g.C.ClauseList.conditions c.args.clauses.now)) _ c.loop-n.invariant (tree_end_is (g.C.ClauseList.conditions c.args.clauses.now) c.loop-n.n (omega arith)) (no_some_clause c.args.columns.now (cond c.args.goal.now))
