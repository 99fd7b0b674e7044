use Rattle.std.proofs.Common.{arith, refl, sym}
use Rattle.std.proofs.lemmas.Bool.{true≢false}
use Rattle.pathkeys.specs.work.Finding.{class_numbers}
use Rattle.certificate_entries.proofs.DifferentLemmas.{all-different, more-different, twice}
use Rattle.certificate_entries.proofs.keys.are_different.Goals as goal

pub loop-n-preserved : goal.loop-n-preserved
loop-n-preserved c = more-different (class_numbers c.args.keys.now) c.loop-n.n c.loop-n.invariant (c.stands_before.ensures.none c.if-stands_before.false)

pub returns-then-stands_before : goal.returns-then-stands_before
returns-then-stands_before c =
    let two = c.stands_before.ensures.some c.if-stands_before.true in
    (λ t. absurd (true≢false (sym t)), λ different. absurd (twice c.args.keys.now two.0 c.loop-n.n two.1 (omega (arith, c.loop-n-test.true)) two.2 different))

pub returns : goal.returns
returns c = (λ t. all-different c.args.keys.now c.loop-n.n (omega (arith, c.loop-n-test.false)) c.loop-n.invariant, λ different. refl)
