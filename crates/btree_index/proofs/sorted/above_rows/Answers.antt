use Rattle.std.proofs.Common.{◌<◌, subst, arith}
use Rattle.btree_index.proofs.AddingLemmas.{Below, one_below, all_taken}
use Rattle.btree_index.proofs.sorted.above_rows.Goals as goal

pub loop-n-preserved : goal.loop-n-preserved
loop-n-preserved c = (
  omega (arith, c.loop-n.invariant.0, c.above_row-above.ensures.no_less),
  one_below c.loop-n.above c.above_row-above.result c.args.entries.now c.loop-n.n c.index-entries-n.result (omega (arith, c.loop-n-test.true)) c.index-entries-n.is
      c.above_row-above.ensures.no_less (subst (λ t. t < c.above_row-above.result) c.tid.ensures c.above_row-above.ensures.above) c.loop-n.invariant.1,
)

pub returns-clause-above : goal.returns-clause-above
returns-clause-above c = all_taken (Below c.loop-n.above) c.args.entries.now c.loop-n.n (omega (arith, c.loop-n-test.false)) c.loop-n.invariant.1
