use Rattle.std.proofs.Common.{arith, ◌≡◌, ◌∙◌, ap, sym}
use Rattle.std.proofs.Common.{◌+◌, ◌-◌}
use Rattle.exact_rows.specs.work.Digits.{number}
use Rattle.std.specs.Prelude.{drop}
use Rattle.exact_rows.proofs.DigitLemmas.{put-below, share-carried, moves-first, moves-on, moves-last, moved}
use Rattle.exact_rows.proofs.digits.scale.Goals as goal

pub loop-i-init : goal.loop-i-init
loop-i-init c =
    let is = c.requires.digits in
    (is, share-carried c.args.digits.now c.args.len 0 c.args.share _ is c.requires.some c.requires.share (omega arith), moves-first c.args.share c.args.digits.now (omega (arith, is.long)))

pub loop-i-preserved : goal.loop-i-preserved
loop-i-preserved c =
    let is = c.loop-i.invariant.0 in
    (put-below c.loop-i.digits c.args.len c.loop-i.i _ is (omega (arith, c.loop-i-test.true)) (omega arith), share-carried c.loop-i.digits c.args.len (c.loop-i.i + 1) c.args.share c.loop-i.carry is (omega (arith, c.loop-i-test.true)) c.requires.share c.loop-i.invariant.1, moves-on c.args.share c.loop-i.digits c.loop-i.i _ c.loop-i.carry _ (omega (arith, c.loop-i-test.true, is.within, is.long)) (omega arith) ∙ c.loop-i.invariant.2)

pub returns-clause-number : goal.returns-clause-number
returns-clause-number c =
    let is = c.loop-i.invariant.0 in
    let at : c.args.len - 1 + 1 ≡ c.args.len = omega (arith, c.requires.some) in
    let last : c.loop-i.i ≡ c.args.len - 1 = omega (arith, c.loop-i-test.false, c.loop-i.auto.i-end) in
    let rest : number (drop (c.args.len - 1 + 1) c.loop-i.digits) ≡ 0 = ap (λ k. number (drop k c.loop-i.digits)) at ∙ is.rest in
    moves-last c.args.share c.loop-i.digits (c.args.len - 1) c.loop-i.carry (omega (arith, c.requires.some, is.within, is.long)) rest ∙ (ap (λ i. moved c.args.share c.loop-i.digits i c.loop-i.carry) (sym last) ∙ c.loop-i.invariant.2)
