use Rattle.std.proofs.Common.{◌∙◌}
use Rattle.group_values.proofs.FinalLemmas.{lines-more}
use Rattle.group_values.proofs.finish.lines_in_order.Goals as goal

pub loop-group-preserved : goal.loop-group-preserved
loop-group-preserved c =
    c.in_ok-push.ensures.items
    ∙ lines-more c.args.items.now c.args.groups.now c.loop-group.group-index c.group-item.result c.loop-group.lines.items c.in_ok-line.field-0 c.loop-group-test.true c.group-item.is c.loop-group.invariant c.in_ok-line.ensures
