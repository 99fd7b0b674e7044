use Rattle.std.proofs.Common.{◌≤◌, length, subst, arith}
use Rattle.certificate_reader.proofs.EndLemmas.{cut-at, whole-line}
use Rattle.certificate_reader.proofs.block.next_line.Goals as goal

pub returns-then-end-text-clause-line : goal.returns-then-end-text-clause-line
returns-then-end-text-clause-line c = cut-at c.args.text.now c.line_length-end.result c.line_length-end.ensures.line c.if-end-text.true

pub returns-else-end-text-clause-none : goal.returns-else-end-text-clause-none
returns-else-end-text-clause-none c = whole-line c.args.text.now (subst (λ m. length c.args.text.now ≤ m) c.line_length-end.ensures.line (omega (arith, c.if-end-text.false)))
