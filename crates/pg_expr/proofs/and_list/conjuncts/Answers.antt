use Rattle.std.proofs.Common.{◌≡◌, Bool, false, ap, sym, ◌∙◌, subst}
use Rattle.std.proofs.lemmas.Result.{IfOk-weaker}
use Rattle.pg_value.specs.declared.value.SqlType.{SqlType}
use Rattle.pg_value.specs.declared.value.Value.{Value}
use Rattle.pg_expr.specs.declared.operand.ColRef.{ColRef}
use Rattle.pg_expr.specs.Columns.{some_column, some_column_of, each_column, each_column_of, atom_count, atom_count_of}
use Rattle.pg_expr.specs.Conjuncts.{conjuncts_of}
use Rattle.pg_expr.specs.Pushed.{IsPushed, ArePushed}
use Rattle.pg_expr.specs.Truths.{truth_at, truth_of_all}
use Rattle.pg_expr.specs.Typed.{IsTyped, AreTyped}
use Rattle.pg_expr.specs.work.View.{cond, conds}
use Rattle.pg_expr.proofs.FormLaws.{conjuncts-form}
use Rattle.pg_expr.proofs.KeptLaws.{conjuncts-typed, conjuncts-some, conjuncts-each, conjuncts-atoms, conjuncts-truth}
use Rattle.pg_expr.proofs.and_list.conjuncts.Goals as goal

pub returns-clause-truth : goal.returns-clause-truth
returns-clause-truth c =
    IfOk-weaker c.conjuncts_in.result (λ es. conds es.items.items ≡ conjuncts_of (cond c.args.e)) (λ es. (b : ColRef → Value) → truth_of_all b (conds es.items.items) ≡ truth_at b (cond c.args.e))
    (λ es e b. ap (truth_of_all b) e ∙ conjuncts-truth b (cond c.args.e)) c.conjuncts_in.ensures

pub returns-clause-form : goal.returns-clause-form
returns-clause-form c =
    IfOk-weaker c.conjuncts_in.result (λ es. conds es.items.items ≡ conjuncts_of (cond c.args.e)) (λ es. IsPushed (cond c.args.e) → ArePushed false (conds es.items.items))
    (λ es e h. subst (ArePushed false) (sym e) (conjuncts-form (cond c.args.e) h)) c.conjuncts_in.ensures

pub returns-clause-typed : goal.returns-clause-typed
returns-clause-typed c =
    IfOk-weaker c.conjuncts_in.result (λ es. conds es.items.items ≡ conjuncts_of (cond c.args.e)) (λ es. (t : ColRef → SqlType) → IsTyped t (cond c.args.e) → AreTyped t (conds es.items.items))
    (λ es e t h. subst (AreTyped t) (sym e) (conjuncts-typed t (cond c.args.e) h)) c.conjuncts_in.ensures

pub returns-clause-some : goal.returns-clause-some
returns-clause-some c =
    IfOk-weaker c.conjuncts_in.result (λ es. conds es.items.items ≡ conjuncts_of (cond c.args.e)) (λ es. (test : ColRef → Bool) → some_column_of test (conds es.items.items) ≡ some_column test (cond c.args.e))
    (λ es e test. ap (some_column_of test) e ∙ conjuncts-some test (cond c.args.e)) c.conjuncts_in.ensures

pub returns-clause-each : goal.returns-clause-each
returns-clause-each c =
    IfOk-weaker c.conjuncts_in.result (λ es. conds es.items.items ≡ conjuncts_of (cond c.args.e)) (λ es. (test : ColRef → Bool) → each_column_of test (conds es.items.items) ≡ each_column test (cond c.args.e))
    (λ es e test. ap (each_column_of test) e ∙ conjuncts-each test (cond c.args.e)) c.conjuncts_in.ensures

pub returns-clause-atoms : goal.returns-clause-atoms
returns-clause-atoms c =
    IfOk-weaker c.conjuncts_in.result (λ es. conds es.items.items ≡ conjuncts_of (cond c.args.e)) (λ es. atom_count_of (conds es.items.items) ≡ atom_count (cond c.args.e))
    (λ es e. ap atom_count_of e ∙ conjuncts-atoms (cond c.args.e)) c.conjuncts_in.ensures
