use Rattle.std.proofs.Common.{sym, ◌∙◌}
use Rattle.std.specs.Char.{is_ascii_digit}
use Rattle.civil.proofs.ScanLemmas.{all-gone-on}
use Rattle.civil.proofs.numerics.is_numeral_text.Goals as goal

pub loop-n-preserved : goal.loop-n-preserved
loop-n-preserved c = all-gone-on is_ascii_digit c.args.text.now c.loop-n.n c.loop-n-test.true c.loop-n.invariant (sym c.is_ascii_digit.ensures.value ∙ c.if-not-is_ascii_digit.false)
