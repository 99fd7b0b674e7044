use Rattle.exact_rows.proofs.DigitLemmas.{puts-on}
use Rattle.exact_rows.proofs.digits.append.Goals as goal

pub loop-left-preserved : goal.loop-left-preserved
loop-left-preserved c = puts-on c.loop-left.digits c.loop-left.at c.loop-left.left c.from.result c.from-left.result _ c.from.ensures c.from-left.ensures c.loop-left.invariant.0 c.loop-left-test.true c.loop-left.invariant.1 c.requires.room
