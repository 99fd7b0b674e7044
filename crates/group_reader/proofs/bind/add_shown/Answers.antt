use Rattle.std.proofs.Common.{arith}
use Rattle.expr_reader.proofs.SliceLemmas.{put-all, put-more}
use Rattle.group_reader.specs.work.Meaning.{shown_at}
use Rattle.group_reader.proofs.bind.add_shown.Goals as goal

pub loop-column-preserved : goal.loop-column-preserved
loop-column-preserved c = put-more (shown_at c.args.word) c.loop-column.parts.items _ c.args.parts.now.items c.args.columns.now c.loop-column.column-index _ c.loop-column-test.true c.in_ok-push.ensures.items c.loop-column.invariant

pub returns : goal.returns
returns c = put-all (shown_at c.args.word) c.loop-column.parts.items c.args.parts.now.items c.args.columns.now c.loop-column.column-index (omega arith) c.loop-column.invariant
