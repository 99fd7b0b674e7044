use Rattle.std.proofs.Common.{◌∙◌, sym, true≢false}
use Rattle.plan_tree.specs.work.Views.{element}
use Rattle.plan_space.proofs.TreeLemmas.{one-less}
use Rattle.plan_space.proofs.trees.is_among.Goals as goal

pub loop-other-preserved : goal.loop-other-preserved
loop-other-preserved c =
    one-less element c.args.found.now c.loop-other.other-index _ (element c.args.e) c.loop-other-test.true (λ same. true≢false (sym (c.is_same.ensures.1 same) ∙ c.if-is_same.false)) c.loop-other.invariant
