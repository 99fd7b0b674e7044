use Rattle.std.proofs.Common.{Ok, refl, sym, ap, subst, ◌∙◌}
use Rattle.expr_reader.specs.declared.written.Side.{Side}
use Rattle.expr_reader.specs.work.Reads.{Reads}
use Rattle.expr_reader.specs.work.Written.{side_meant}
use Rattle.expr_reader.proofs.OperandLemmas.{col-end, column-next, typed-next}
use Rattle.expr_reader.proofs.ReadsLemmas.{read-ok}
use Rattle.expr_reader.proofs.operand.named.Goals as goal

pub typed-requires : goal.typed-requires
typed-requires g c =
    let (o, rest, ends, is) = c.requires.stands in
    let a = typed-next o rest c.args.from.now ends is (c.if-is_before_quoted.ensures.quoted refl) in
    (a.name, a.text, rest, a.words)

pub returns-then-is_before_quoted-clause-read : goal.returns-then-is_before_quoted-clause-read
returns-then-is_before_quoted-clause-read g c = λ o rest ends is.
    let scope = g.S.Scope.visible c.args.scope.now in
    let types = g.S.Scope.type_of c.args.scope.now in
    let a = typed-next o rest c.args.from.now ends is (c.if-is_before_quoted.ensures.quoted refl) in
    let read = c.in_ok-typed.ensures.read a.name a.text rest a.words in
    read-ok Side Side (λ x. x) (side_meant scope types o) c.in_ok-typed.field-0 rest c.typed.new.from (ap (λ (s : Side). Ok s) read.0 ∙ sym (ap (side_meant scope types) a.operand)) read.1

pub column-requires : goal.column-requires
column-requires g c =
    let (o, rest, ends, is) = c.requires.stands in
    let (n, left, first) = c.requires.name in
    let a = column-next o rest c.args.from.now left n is first (c.if-is_before_quoted.ensures.other refl) in
    (a.col, rest, col-end rest ends, a.words)

pub returns-clause-read : goal.returns-clause-read
returns-clause-read g c = λ o rest ends is.
    let scope = g.S.Scope.visible c.args.scope.now in
    let types = g.S.Scope.type_of c.args.scope.now in
    let (n, left, first) = c.requires.name in
    let a = column-next o rest c.args.from.now left n is first (c.if-is_before_quoted.ensures.other refl) in
    subst (λ x. Reads {T = Side} {A = Side} (λ s. s) (side_meant scope types x) rest c.column.result c.column.new.from) (sym a.operand) (c.column.ensures.read a.col rest (col-end rest ends) a.words)
