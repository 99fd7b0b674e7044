use Rattle.std.proofs.Common.{sym, ap, ◌∙◌}
use Rattle.pg_expr.specs.Cond.{Cond}
use Rattle.pg_expr.specs.work.View.{cond}
use Rattle.pg_expr.specs.declared.expr.Expr.{Expr}
use Rattle.expr_reader.specs.declared.written.Side.{Side}
use Rattle.expr_reader.specs.Conditions.{next, compare_sides, side_of}
use Rattle.expr_reader.specs.work.Written.{side_meant}
use Rattle.expr_reader.proofs.ReadsLemmas.{read-fault, read-refused, was-read}
use Rattle.expr_reader.proofs.OperandLemmas.{side-fault, side-found}
use Rattle.expr_reader.proofs.expr.comparison.Goals as goal

pub returns-in_err-right-clause-read : goal.returns-in_err-right-clause-read
returns-in_err-right-clause-read g c = λ a op o rest left operator ends is.
    let scope = g.S.Scope.visible c.args.scope.now in
    let types = g.S.Scope.type_of c.args.scope.now in
    read-refused Side Expr Side Cond (λ x. x) cond (side_meant scope types o) (next (side_of scope types o) (λ b. compare_sides op a b)) c.in_err-right.field-0.0 c.from_residual.result rest rest c.operand.new.from c.operand.new.from
    (c.in_err-right.ensures.read o rest ends is) (λ f e. ap (λ m. next m (λ b. compare_sides op a b)) (side-fault scope types o f e)) c.from_residual.ensures.1

pub returns-in_err-compare-clause-read : goal.returns-in_err-compare-clause-read
returns-in_err-compare-clause-read g c = λ a op o rest left operator ends is.
    let scope = g.S.Scope.visible c.args.scope.now in
    let types = g.S.Scope.type_of c.args.scope.now in
    let was = was-read Side Side (λ x. x) (side_meant scope types o) c.in_ok-right.right rest c.operand.new.from (c.in_ok-right.ensures.read o rest ends is) in
    let found = side-found scope types o c.in_ok-right.right was.meant in
    let told = c.in_err-compare.ensures op a found.side operator left found.read in
    read-fault Expr Cond cond (next (side_of scope types o) (λ b. compare_sides op a b)) c.from_residual-in_err-compare.result c.in_err-compare.field-0.0 rest c.operand.new.from
    (ap (λ m. next m (λ b. compare_sides op a b)) found.found ∙ sym told) c.from_residual-in_err-compare.ensures.1
