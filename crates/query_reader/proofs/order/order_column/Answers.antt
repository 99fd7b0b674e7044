use Rattle.std.proofs.Common.{refl, sym, ◌∙◌}
use Rattle.pg_expr.specs.declared.operand.ColRef.{ColRef}
use Rattle.expr_reader.proofs.OperandLemmas.{bare-col}
use Rattle.expr_reader.proofs.ReadsLemmas.{read-fault, read-ok}
use Rattle.query_reader.specs.work.Scope.{visible_in}
use Rattle.query_reader.proofs.OrderLemmas.{bare-ordering}
use Rattle.query_reader.proofs.order.order_column.Goals as goal

pub returns-in_err-found_column-clause-read : goal.returns-in_err-found_column-clause-read
returns-in_err-found_column-clause-read c = λ col rest ends is.
    let a = bare-col col rest c.args.from.now c.expect_name.new.self c.in_ok-first.first c.in_ok-first.ensures.read (c.if-not-takes_mark.ensures.other refl) is in
    read-fault ColRef ColRef (λ x. x) _ _ c.in_err-found_column.field-0.0 rest c.takes_mark.new.self
    (sym (bare-ordering (visible_in c.args.relations.now) c.args.select.now col a.name c.in_ok-first.first c.ordering-found.result c.items.result.now a.col a.says c.ordering-found.ensures c.items.ensures) ∙ sym c.in_err-found_column.ensures)
    c.from_residual-in_err-found_column.ensures.1

pub returns-then-not-takes_mark-clause-read : goal.returns-then-not-takes_mark-clause-read
returns-then-not-takes_mark-clause-read c = λ col rest ends is.
    let a = bare-col col rest c.args.from.now c.expect_name.new.self c.in_ok-first.first c.in_ok-first.ensures.read (c.if-not-takes_mark.ensures.other refl) is in
    read-ok ColRef ColRef (λ x. x) _ _ rest c.takes_mark.new.self
    (c.in_ok-found_column.ensures ∙ bare-ordering (visible_in c.args.relations.now) c.args.select.now col a.name c.in_ok-first.first c.ordering-found.result c.items.result.now a.col a.says c.ordering-found.ensures c.items.ensures)
    (c.if-not-takes_mark.ensures.left refl ∙ a.words)
