use Rattle.std.proofs.Common.{◌≡◌, ◌≤◌, true, List, sym, subst}
use Rattle.pg_expr.specs.Columns.{atom_count, each_column}
use Rattle.pg_expr.specs.Typed.{IsTyped}
use Rattle.eq_classes.specs.declared.order.OrderItem.{OrderItem}
use Rattle.pg_expr.specs.Cond.{Cond}
use Rattle.eq_classes.specs.Clauses.{Clause}
use Rattle.eq_classes.proofs.ListLemmas.{IsIn, all_at, all_from}
use Rattle.eq_classes.proofs.ColumnLemmas.{clause_passes}
use Rattle.eq_classes.proofs.TypedLemmas.{clause_atoms, clause_typed}
use Rattle.plan_laws.proofs.classes.clauses_are_over.Goals as goal

pub returns-clause-typed : goal.returns-clause-typed
returns-clause-typed c = λ g t is typed.
    all_from (λ (k : Clause). IsTyped g.type_of k.cond) t.clauses (λ k i. clause_typed g typed t.classes is.classes k (subst (IsIn k) is.clauses i))

pub returns-clause-columns : goal.returns-clause-columns
returns-clause-columns c = λ g t test is pass items.
    all_from (λ (k : Clause). each_column test k.cond ≡ true) t.clauses
    (λ k i. clause_passes test g (all_at (λ (e : Cond). each_column test e ≡ true) g.conjuncts pass) (all_at (λ (o : OrderItem). test o.col ≡ true) g.order items) t.classes is.classes k (subst (IsIn k) is.clauses i))

pub returns-clause-atoms : goal.returns-clause-atoms
returns-clause-atoms c = λ g t most is some few.
    all_from (λ (k : Clause). atom_count k.cond ≤ most) t.clauses (λ k i. clause_atoms g t.classes most some few k (subst (IsIn k) is.clauses i))
