use Rattle.std.proofs.Common.{[], ◌∷◌, ◌++◌, ap, ◌∙◌, arith}
use Rattle.expr_reader.proofs.SliceLemmas.{put-all, put-more}
use Rattle.group_reader.specs.Binding.{item_in}
use Rattle.group_reader.proofs.lists.items_at.Goals as goal

pub loop-part-preserved : goal.loop-part-preserved
loop-part-preserved c = put-more (item_in c.args.keys.now) c.loop-part.all.items _ [] c.args.parts.now c.loop-part.part-index _ c.loop-part-test.true (c.in_ok-push.ensures.items ∙ ap (λ i. c.loop-part.all.items ++ i ∷ []) c.item.ensures) c.loop-part.invariant

pub returns : goal.returns
returns c = put-all (item_in c.args.keys.now) c.loop-part.all.items [] c.args.parts.now c.loop-part.part-index (omega arith) c.loop-part.invariant
