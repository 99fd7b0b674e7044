use Rattle.std.proofs.Common.{Some, None, refl, sym, ◌∙◌}
use Rattle.pg_expr.specs.declared.operand.ColRef.{ColRef}
use Rattle.expr_reader.proofs.OperandLemmas.{bare-col, bare-column, is-found}
use Rattle.expr_reader.proofs.ReadsLemmas.{read-fault, read-ok}
use Rattle.expr_reader.proofs.ScopeLemmas.{found-seen}
use Rattle.expr_reader.proofs.operand.take_column.Goals as goal

pub returns-in_err-found_column-clause-read : goal.returns-in_err-found_column-clause-read
returns-in_err-found_column-clause-read g c = λ col rest ends is.
    let a = bare-col col rest c.args.from.now c.expect_name.new.self c.in_ok-first.first c.in_ok-first.ensures.read (c.if-not-takes_mark.ensures.other refl) is in
    read-fault ColRef ColRef (λ x. x) _ _ c.in_err-found_column.field-0.0 rest c.takes_mark.new.self
    (sym (bare-column (g.S.Scope.visible c.args.scope.now) col a.name c.in_ok-first.first c.column-found.result c.items.result.now a.col a.says c.column-found.ensures c.items.ensures) ∙ sym c.in_err-found_column.ensures)
    c.from_residual-in_err-found_column.ensures.1

pub returns-then-not-takes_mark-clause-read : goal.returns-then-not-takes_mark-clause-read
returns-then-not-takes_mark-clause-read g c = λ col rest ends is.
    let a = bare-col col rest c.args.from.now c.expect_name.new.self c.in_ok-first.first c.in_ok-first.ensures.read (c.if-not-takes_mark.ensures.other refl) is in
    read-ok ColRef ColRef (λ x. x) _ _ rest c.takes_mark.new.self
    (c.in_ok-found_column.ensures ∙ bare-column (g.S.Scope.visible c.args.scope.now) col a.name c.in_ok-first.first c.column-found.result c.items.result.now a.col a.says c.column-found.ensures c.items.ensures)
    (c.if-not-takes_mark.ensures.left refl ∙ a.words)

pub returns-then-not-takes_mark-clause-visible : goal.returns-then-not-takes_mark-clause-visible
returns-then-not-takes_mark-clause-visible g c =
    found-seen (g.S.Scope.visible c.args.scope.now) None c.items.result.now c.in_ok-found_column.field-0
    (sym c.column-found.ensures ∙ is-found c.column-found.result _ _ c.in_ok-found_column.field-0 (sym c.in_ok-found_column.ensures))

pub returns-clause-visible : goal.returns-clause-visible
returns-clause-visible g c =
    found-seen (g.S.Scope.visible c.args.scope.now) (Some c.items-2.result.now) c.items-3.result.now c.in_ok-found_column-2.field-0
    (sym c.column-found-2.ensures ∙ is-found c.column-found-2.result _ _ c.in_ok-found_column-2.field-0 (sym c.in_ok-found_column-2.ensures))
