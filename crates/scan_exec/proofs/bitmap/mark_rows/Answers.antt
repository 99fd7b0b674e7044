use Rattle.std.proofs.Common.{[]}
use Rattle.scan_exec.proofs.HeldLemmas.{below_on, number_on}
use Rattle.scan_exec.proofs.bitmap.mark_rows.Goals as goal

pub loop-tid-preserved : goal.loop-tid-preserved
loop-tid-preserved c = (
  number_on c.args.tids.now c.loop-tid.tid-index c.loop-tid-test.true _ c.args.held.now c.loop-tid.held c.add.new.self _ c.loop-tid.invariant.0 c.add.ensures,
  below_on c.args.tids.now c.loop-tid.tid-index c.loop-tid-test.true (record { 0 = 0 }) c.args.held.now c.loop-tid.held c.add.new.self [] c.args.held.now.bound c.loop-tid.invariant.1,
)
