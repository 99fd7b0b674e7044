use Rattle.std.proofs.Common.{arith}
use Rattle.expr_reader.proofs.SliceLemmas.{put-all, put-more}
use Rattle.group_query.specs.Grouping.{plain_item}
use Rattle.group_reader.proofs.lists.class_items.Goals as goal

pub loop-key-preserved : goal.loop-key-preserved
loop-key-preserved c = put-more plain_item c.loop-key.all.items _ c.args.order.now c.args.keys.now c.loop-key.key-index _ c.loop-key-test.true c.in_ok-push.ensures.items c.loop-key.invariant

pub returns : goal.returns
returns c = put-all plain_item c.loop-key.all.items c.args.order.now c.args.keys.now c.loop-key.key-index (omega arith) c.loop-key.invariant
