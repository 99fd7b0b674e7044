use Rattle.std.proofs.Common.{◌<◌, length, sym, arith}
use Rattle.group_reader.proofs.FoundLemmas.{items-passed, one-passed, pass-item}
use Rattle.group_reader.proofs.lists.first_item.Goals as goal

pub loop-n-preserved : goal.loop-n-preserved
loop-n-preserved c =
    let low : c.loop-n.n < length c.args.order.now = omega (arith, c.loop-n-test.true, c.min-end.ensures) in
    let less : c.loop-n.n < length c.args.sorts.now = omega (arith, c.loop-n-test.true, c.min-end.ensures) in
    pass-item c.args.keys.now c.args.order.now c.args.sorts.now c.loop-n.n _ _ low less (sym c.if-not-has.ensures) c.loop-n.invariant

pub returns : goal.returns
returns c = items-passed c.args.keys.now c.args.order.now c.args.sorts.now c.loop-n.n _ (one-passed _ _ _ (omega (arith, c.min-end.ensures))) c.loop-n.invariant
