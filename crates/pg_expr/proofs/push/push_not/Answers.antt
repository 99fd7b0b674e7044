use Rattle.std.proofs.Common.{◌≡◌, Bool, false, ap, sym, ◌∙◌, subst}
use Rattle.std.proofs.lemmas.Result.{IfOk-weaker}
use Rattle.pg_value.specs.declared.value.SqlType.{SqlType}
use Rattle.pg_expr.specs.declared.operand.ColRef.{ColRef}
use Rattle.pg_expr.specs.Columns.{some_column, each_column, atom_count}
use Rattle.pg_expr.specs.Pushed.{pushed, IsPushed}
use Rattle.pg_expr.specs.Typed.{IsTyped}
use Rattle.pg_expr.specs.work.Typed.{HasTruthOf}
use Rattle.pg_expr.specs.work.View.{cond}
use Rattle.pg_expr.proofs.DefinedLaws.{pushed-same_truth}
use Rattle.pg_expr.proofs.FormLaws.{pushed-form}
use Rattle.pg_expr.proofs.KeptLaws.{pushed-typed, pushed-some, pushed-each, pushed-atoms}
use Rattle.pg_expr.proofs.push.push_not.Goals as goal

pub returns-clause-form : goal.returns-clause-form
returns-clause-form c =
    IfOk-weaker c.pushed_expr.result (λ p. cond p ≡ pushed false (cond c.args.e)) (λ p. IsPushed (cond p))
    (λ p e. subst IsPushed (sym e) (pushed-form false (cond c.args.e))) c.pushed_expr.ensures

pub returns-clause-truth : goal.returns-clause-truth
returns-clause-truth c =
    IfOk-weaker c.pushed_expr.result (λ p. cond p ≡ pushed false (cond c.args.e)) (λ p. HasTruthOf (cond c.args.e) (cond p))
    (λ p e. subst (HasTruthOf (cond c.args.e)) (sym e) (pushed-same_truth (cond c.args.e))) c.pushed_expr.ensures

pub returns-clause-typed : goal.returns-clause-typed
returns-clause-typed c =
    IfOk-weaker c.pushed_expr.result (λ p. cond p ≡ pushed false (cond c.args.e)) (λ p. (t : ColRef → SqlType) → IsTyped t (cond c.args.e) → IsTyped t (cond p))
    (λ p e t h. subst (IsTyped t) (sym e) (pushed-typed t false (cond c.args.e) h)) c.pushed_expr.ensures

pub returns-clause-some : goal.returns-clause-some
returns-clause-some c =
    IfOk-weaker c.pushed_expr.result (λ p. cond p ≡ pushed false (cond c.args.e)) (λ p. (test : ColRef → Bool) → some_column test (cond p) ≡ some_column test (cond c.args.e))
    (λ p e test. ap (some_column test) e ∙ pushed-some test false (cond c.args.e)) c.pushed_expr.ensures

pub returns-clause-each : goal.returns-clause-each
returns-clause-each c =
    IfOk-weaker c.pushed_expr.result (λ p. cond p ≡ pushed false (cond c.args.e)) (λ p. (test : ColRef → Bool) → each_column test (cond p) ≡ each_column test (cond c.args.e))
    (λ p e test. ap (each_column test) e ∙ pushed-each test false (cond c.args.e)) c.pushed_expr.ensures

pub returns-clause-atoms : goal.returns-clause-atoms
returns-clause-atoms c =
    IfOk-weaker c.pushed_expr.result (λ p. cond p ≡ pushed false (cond c.args.e)) (λ p. atom_count (cond p) ≡ atom_count (cond c.args.e))
    (λ p e. ap atom_count e ∙ pushed-atoms false (cond c.args.e)) c.pushed_expr.ensures
