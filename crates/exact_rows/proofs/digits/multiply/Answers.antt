use Rattle.std.proofs.Common.{arith, ◌≡◌, ◌∙◌, sym, ap}
use Rattle.exact_rows.proofs.DigitLemmas.{put-below, goes-on, ended, carried, reached}
use Rattle.exact_rows.proofs.digits.multiply.Goals as goal

pub loop-i-preserved : goal.loop-i-preserved
loop-i-preserved c =
    let is = c.loop-i.invariant.0 in
    (put-below c.loop-i.digits c.args.len c.loop-i.i _ is c.loop-i-test.true (omega arith), carried c.loop-i.digits c.args.len c.loop-i.i c.args.n c.loop-i.carry is c.loop-i-test.true c.requires.factor c.loop-i.invariant.1, goes-on c.args.n c.loop-i.digits c.loop-i.i _ c.loop-i.carry _ (omega (arith, c.loop-i-test.true, is.within, is.long)) (omega arith) ∙ c.loop-i.invariant.2)

pub returns-clause-number : goal.returns-clause-number
returns-clause-number c =
    let at : c.loop-i.i ≡ c.args.len = omega (arith, c.loop-i-test.false, c.loop-i.auto.i-end) in
    sym (ended c.args.n c.loop-i.digits c.args.len c.loop-i.carry c.loop-i.invariant.0.rest) ∙ (ap (λ i. reached c.args.n c.loop-i.digits i c.loop-i.carry) (sym at) ∙ c.loop-i.invariant.2)
