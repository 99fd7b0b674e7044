use Rattle.std.proofs.Common.{get_or, refl}
use Rattle.group_values.proofs.CostLemmas.{factor-more}
use Rattle.group_values.proofs.costs.lists_of_values.Goals as goal

pub loop-count-preserved : goal.loop-count-preserved
loop-count-preserved c =
    let ns = c.args.distinct.now in
    let i = c.loop-count.count-index in
    record {
      few = c.times-lists.ensures.few;
      rest = factor-more ns i (get_or ns i 0) c.args.most c.loop-count.lists c.times-lists.result c.loop-count-test.true refl c.times-lists.ensures.product c.loop-count.invariant.rest;
    }
