use Rattle.std.proofs.Common.{codes, refl, sym, ap}
use Rattle.pg_expr.specs.Cond.{Cond}
use Rattle.pg_expr.specs.work.View.{cond}
use Rattle.pg_expr.specs.declared.expr.Expr.{Expr}
use Rattle.expr_reader.specs.declared.written.Side.TheVariants.{Literal as LiteralSide}
use Rattle.expr_reader.specs.Conditions.{of_column, of_literal, standing_for}
use Rattle.expr_reader.proofs.ListLemmas.{equal_one}
use Rattle.expr_reader.proofs.ReadsLemmas.{read-fault, read-ok}
use Rattle.expr_reader.proofs.expr.equality.Goals as goal

pub returns-in_err-compare-clause-read : goal.returns-in_err-compare-clause-read
returns-in_err-compare-clause-read c = λ l rest is.
    let s = of_column c.args.c c.args.t c.args.first in
    let read = c.in_ok-right.ensures.read l rest is in
    let told = c.in_err-compare.ensures (standing_for (codes "=") c.args.word) s (of_literal l) refl refl (ap LiteralSide read.0) in
    read-fault Expr Cond cond (equal_one s c.args.word l) c.from_residual-in_err-compare.result c.in_err-compare.field-0.0 rest c.literal.new.from (sym told) c.from_residual-in_err-compare.ensures.1

pub returns-clause-read : goal.returns-clause-read
returns-clause-read c = λ l rest is.
    let s = of_column c.args.c c.args.t c.args.first in
    let read = c.in_ok-right.ensures.read l rest is in
    read-ok Expr Cond cond (equal_one s c.args.word l) c.in_ok-compare.field-0 rest c.literal.new.from
    (c.in_ok-compare.ensures (standing_for (codes "=") c.args.word) s (of_literal l) refl refl (ap LiteralSide read.0)) read.1
