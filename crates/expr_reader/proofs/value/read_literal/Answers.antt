use Rattle.std.proofs.Common.{sym}
use Rattle.expr_reader.proofs.LiteralLemmas.{place-is}
use Rattle.expr_reader.proofs.ValueLemmas.{typed-given}
use Rattle.expr_reader.proofs.value.read_literal.Goals as goal

pub returns-clause-place : goal.returns-clause-place
returns-clause-place c = λ l rest is. place-is l rest c.args.from.now c.token-token.result is c.token-token.ensures

pub returns-clause-typed : goal.returns-clause-typed
returns-clause-typed c =
    let (l, rest, is) = c.requires in
    let read = c.in_ok-literal.ensures.read l rest is in
    (typed-given c.args.t l c.in_ok-value.value (sym (c.in_ok-value.ensures l read.0))).1

pub returns-clause-some : goal.returns-clause-some
returns-clause-some c =
    let (l, rest, is) = c.requires in
    let read = c.in_ok-literal.ensures.read l rest is in
    (typed-given c.args.t l c.in_ok-value.value (sym (c.in_ok-value.ensures l read.0))).0
