use Rattle.std.proofs.Common.{sym, ◌∙◌, arith}
use Rattle.std.specs.Char.{is_ascii_digit}
use Rattle.civil.proofs.ScanLemmas.{gone-on, passed, stopped}
use Rattle.civil.proofs.numerics.digits_of.Goals as goal

pub returns-then-not-is_ascii_digit : goal.returns-then-not-is_ascii_digit
returns-then-not-is_ascii_digit c =
    stopped is_ascii_digit c.args.text.now c.loop-n.n c.loop-n-test.true c.loop-n.invariant (sym c.is_ascii_digit.ensures.value ∙ c.if-not-is_ascii_digit.true)

pub loop-n-preserved : goal.loop-n-preserved
loop-n-preserved c = gone-on is_ascii_digit c.args.text.now c.loop-n.n c.loop-n-test.true c.loop-n.invariant (sym c.is_ascii_digit.ensures.value ∙ c.if-not-is_ascii_digit.false)

pub returns : goal.returns
returns c =
    let all = passed is_ascii_digit c.args.text.now c.loop-n.n c.loop-n-test.false c.loop-n.invariant in
    omega (arith, all, c.loop-n-test.false, c.loop-n.auto.n-end)
