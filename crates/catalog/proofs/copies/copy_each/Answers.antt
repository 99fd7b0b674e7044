use Rattle.catalog.proofs.CopyLemmas.{copied-item}
use Rattle.catalog.proofs.copies.copy_each.Goals as goal

pub loop-item-preserved : goal.loop-item-preserved
loop-item-preserved g c =
    copied-item g.T.Copied.same c.args.items.now c.loop-item.copied.items c.push.new.self.items c.loop-item.item-index c.item-item.result c.in_ok-copied.field-0 c.loop-item-test.true c.item-item.is c.in_ok-copied.ensures
    c.in_ok-push.ensures.items c.loop-item.invariant
