use Rattle.std.proofs.Common.{◌∙◌, ap, map}
use Rattle.bitmap_scan.specs.work.Chosen.{combined}
use Rattle.plan_tree.specs.work.Views.{bits, element}
use Rattle.check_reply.proofs.ShapeLemmas.{bitmap-tells}
use Rattle.check_reply.proofs.shapes.bitmap_shape.Goals as goal

pub returns : goal.returns
returns c = λ t p stands built.
    let first = c.first_elements-found.ensures.elements in
    bitmap-tells c.args.cat.now c.args.q.now t c.args.at.0 c.one.result c.one.ensures c.args.at.1 c.in_ok-keys.keys c.args.elements c.args.arms.now (map element c.items.result.now) (bits c.combine.result)
    c.in_ok-keys.ensures.list (first.0, first.1, c.items.ensures.list ∙ first.2) (c.combine.ensures ∙ ap combined c.in_ok-trees.ensures) p stands built
