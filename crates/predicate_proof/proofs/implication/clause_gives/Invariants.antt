use Rattle.std.proofs.Common.{drop}
use Rattle.std.specs.Prelude.{◌↔◌}
use Rattle.pg_expr.specs.Cond.{conds_of}
use Rattle.pg_expr.specs.work.View.{cond}
use Rattle.predicate_proof.specs.Derivation.{SomeImplies}
use Rattle.predicate_proof.proofs.implication.clause_gives.Given as goal

-- one clause gives the goal exactly where one of the rest does
abbrev pub invariant-loop-n : goal.invariant-loop-n
invariant-loop-n g l =
    let clauses = g.C.ClauseList.conditions l.clauses in
    SomeImplies l.columns (conds_of (drop l.n clauses)) (cond l.goal) ↔ SomeImplies l.columns (conds_of clauses) (cond l.goal)
