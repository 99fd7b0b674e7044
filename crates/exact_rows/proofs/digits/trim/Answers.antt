use Rattle.std.proofs.Common.{arith}
use Rattle.exact_rows.proofs.DigitLemmas.{some-digit}
use Rattle.exact_rows.proofs.digits.trim.Goals as goal

pub returns-then-digits-top-gt0-clause-some : goal.returns-then-digits-top-gt0-clause-some
returns-then-digits-top-gt0-clause-some c some = some-digit c.args.digits.now _ (omega (arith, c.loop-top-test.true, c.loop-top.invariant.within, c.loop-top.invariant.long)) c.if-digits-top-gt0.true
