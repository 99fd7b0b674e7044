use Rattle.pg_base.specs.Sets.{has}
use Rattle.bitmap_scan.proofs.KeptLemmas.{named-end, named-more}
use Rattle.bitmap_scan.proofs.chosen.named_by.Goals as goal

pub loop-e-preserved : goal.loop-e-preserved
loop-e-preserved c = λ k.
    named-more c.args.kept.now c.loop-e.e-index c.loop-e.left c.e-item.result k (has c.loop-e.named.0 k) _ _ c.loop-e-test.true c.e-item.is (c.with_named-named.ensures k) (c.loop-e.invariant k)

pub returns : goal.returns
returns c = λ k. named-end c.args.kept.now c.loop-e.e-index c.loop-e.left k (has c.loop-e.named.0 k) _ c.loop-e-test.false (c.loop-e.invariant k)
