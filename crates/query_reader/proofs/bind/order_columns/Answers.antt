use Rattle.std.proofs.Common.{[], arith}
use Rattle.eq_classes.specs.declared.order.OrderItem.{OrderItem}
use Rattle.expr_reader.proofs.SliceLemmas.{put-more, put-all}
use Rattle.query_reader.proofs.bind.order_columns.Goals as goal

pub loop-item-preserved : goal.loop-item-preserved
loop-item-preserved c = put-more (λ (i : OrderItem). i.col) c.loop-item.all.items _ [] c.args.order.now c.loop-item.item-index _ c.loop-item-test.true c.in_ok-push.ensures.items c.loop-item.invariant

pub returns : goal.returns
returns c = put-all (λ (i : OrderItem). i.col) c.loop-item.all.items [] c.args.order.now c.loop-item.item-index (omega arith) c.loop-item.invariant
