use Rattle.std.proofs.Common.{Bool, true, All, IsTrue, refl}
use Rattle.pg_expr.specs.declared.expr.Expr.{Expr}
use Rattle.pg_expr.specs.declared.operand.ColRef.{ColRef}
use Rattle.pg_expr.specs.Columns.{each_column}
use Rattle.pg_expr.specs.Cond.{Cond}
use Rattle.pg_expr.specs.Typed.{IsTyped}
use Rattle.pg_expr.specs.work.View.{cond}
use Rattle.expr_reader.specs.Conditions.{meaning_of_expr}
use Rattle.expr_reader.proofs.ReadsLemmas.{read-has}
use Rattle.expr_reader.proofs.TypedLemmas.{expr-good}
use Rattle.expr_reader.proofs.read.take_expr.Goals as goal

pub returns-clause-typed : goal.returns-clause-typed
returns-clause-typed g c =
    let (e, rest, ends, is) = c.requires in
    let scope = g.S.Scope.visible c.args.scope.now in
    let types = g.S.Scope.type_of c.args.scope.now in
    read-has Expr Cond cond (λ x. IsTyped types x) (meaning_of_expr scope types e) c.disjunction.result rest c.disjunction.new.from (c.disjunction.ensures.read e rest ends is)
    (λ x m. (expr-good scope types (λ r. true) (λ k d lt. refl) e x m).0)

pub returns-clause-visible : goal.returns-clause-visible
returns-clause-visible g c =
    let (e, rest, ends, is) = c.requires in
    let scope = g.S.Scope.visible c.args.scope.now in
    let types = g.S.Scope.type_of c.args.scope.now in
    read-has Expr Cond cond (λ x. (test : ColRef → Bool) → All (λ v. IsTrue (test v.column)) scope → IsTrue (each_column test x)) (meaning_of_expr scope types e) c.disjunction.result rest c.disjunction.new.from
    (c.disjunction.ensures.read e rest ends is) (λ x m test all. (expr-good scope types test all e x m).1)
