use Rattle.pg_expr.specs.declared.operand.ColRef.{ColRef}
use Rattle.expr_reader.specs.declared.written.Side.{Side}
use Rattle.expr_reader.proofs.OperandLemmas.{first-place, side-told}
use Rattle.expr_reader.proofs.ReadsLemmas.{read-ok, was-read}
use Rattle.expr_reader.proofs.operand.column.Goals as goal

pub returns-clause-read : goal.returns-clause-read
returns-clause-read g c = λ col rest ends is.
    let w = was-read ColRef ColRef (λ x. x) _ c.in_ok-c.c _ _ (c.in_ok-c.ensures.read col rest ends is) in
    read-ok Side Side (λ x. x) _ _ rest c.take_column.new.from
    (side-told (g.S.Scope.visible c.args.scope.now) (g.S.Scope.type_of c.args.scope.now) col c.in_ok-c.c c.typed.result c.token-first.result w.meant c.typed.ensures (first-place col rest c.args.from.now c.token-first.result is c.token-first.ensures)) w.words
